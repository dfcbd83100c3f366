-- The zeros that are stored first follow the words that are stored then.
use Rattle.std.proofs.Common.{ℕ, List, ◌∷◌, sym, ap, ◌∙◌, arith}
use Rattle.std.specs.Prelude.{replicate}
use Rattle.base_lists.specs.Seq.{put}
use Rattle.base_lists.proofs.StoresAndParts.{put_append, put_swap}
use Rattle.c_codec.specs.Calls.{length_answer}
use Rattle.c_codec.proofs.store_length.Goals as goal

pub returns : goal.returns
unfolding length_answer
returns c =
    let zeros : List ℕ = replicate 20 0 in
    let words : List ℕ = c.args.n ∷ replicate 19 0 in
    c.store-2.ensures
    ∙ ap (λ l. put l 0 words) c.store.ensures
    ∙ put_swap words zeros c.args.answer.now 0 20 (omega arith)
    ∙ sym (put_append words zeros c.args.answer.now 0)
