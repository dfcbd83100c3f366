-- Promise 1: what is taken of a sound frame are words of what is read of it. Assumes nothing.
use Prim.Native.Nat.{ℕ, ◌-◌}
use native.Mathlib.Omega.{arith}
use mathlib.Core.Path.{◌≡◌, refl, sym, ap}
use mathlib.Core.List.{List, ◌++◌}
use Rattle.std.specs.Prelude.{Option, Some, None}
use Rattle.std.specs.Option.{unwrap_or}
use Rattle.std.proofs.lemmas.Option.{none-some}
use mathlib.Core.Bool.{Bool, true, false}
use lib.ListN.{length}
use lib.Dec.{leb}
use Rattle.base_lists.specs.Seq.{pick, bit}
use Rattle.rds_frame.specs.declared.Kind.{Kind}
use Rattle.rds_frame.specs.declared.Kind.TheVariants as K
use Rattle.rds_entries.specs.declared.Entry.{Entry}
use Rattle.rds_body.specs.declared.Body.{Body}
use Rattle.rds_body.specs.declared.Body.TheVariants as B
use Rattle.rds_body.specs.Body.{no_list}
use Rattle.rds_reading.specs.Read.{frame_of, body_after, body_by}
use Rattle.rds_reading.specs.declared.Frame.{Frame}
use Rattle.rds_reading.proofs.Parts.{parts_of}
use Rattle.rds_body.specs.declared.Managed.{Managed}
use Rattle.rds_words.specs.Words.{kind_words, head_words, body_words, list_words, words_of, part_by, part_words}
use Rattle.rds_laws.specs.Trips.{AsRead, taken_words}

-- the words of a frame of this kind and body
abbrev fields : Kind → ℕ → ℕ → ℕ → Body → List Entry → List ℕ
fields k ads s d body list = kind_words k ads s d ++ (body_words body ++ list_words list)

-- the datagram of an I or a UI frame is its whole information
Informed : Kind → Body → ℕ → ℕ → Type 0
Informed (K.I a ns nr r) body e n = body ≡ B.Information e n
Informed (K.S a nr r) body e n = Unit
Informed (K.Ui nu) body e n = body ≡ B.Information e n
Informed (K.U m response) body e n = Unit

module _ (ads s d e n : ℕ) (list : List Entry) where
  as_read : (k : Kind) (body : Body) → Informed k body e n → AsRead (part_by k e n ads s d) (fields k ads s d body list)
  unfolding kind_words part_by body_words Informed
  as_read (K.I a ns nr r) body p = rw p (record { kind = refl; start = refl; len = refl; ads = refl; source = refl; destination = refl; number = omega arith; last = refl })
  as_read (K.S a nr r) body p = record { kind = refl; start = refl; len = refl; ads = refl; source = refl; destination = refl; number = refl; last = refl }
  as_read (K.Ui nu) body p = rw p (record { kind = refl; start = refl; len = refl; ads = refl; source = refl; destination = refl; number = omega arith; last = refl })
  as_read (K.U m response) body p = record { kind = refl; start = refl; len = refl; ads = refl; source = refl; destination = refl; number = refl; last = refl }

module _ (f : List ℕ) (m : Managed) where
  same_body : (b : Body) → Some (no_list b) ≡ Some m → m.body ≡ b
  unfolding no_list
  same_body b e = sym (ap (λ (o : Option Managed). (unwrap_or o m).body) e)

  -- a frame that is not too long has its whole information
  all_of_it : (b : Bool) (e : ℕ) → pick b (Some (no_list (B.Information e (length f - e)))) None ≡ Some m → m.body ≡ B.Information e (length f - e)
  all_of_it true e h = same_body (B.Information e (length f - e)) h
  all_of_it false e h = absurd (none-some m h)

  informed : (k : Kind) (ads : Bool) (s d e : ℕ) → body_after f (record { kind = k; ads = ads; source = s; destination = d; end = e }) ≡ Some m → Informed k m.body e (length f - e)
  unfolding body_after body_by Informed
  informed (K.I a ns nr r) ads s d e h = all_of_it (leb (length f - e) 1520) e h
  informed (K.S a nr r) ads s d e h = tt
  informed (K.Ui nu) ads s d e h = all_of_it (leb (length f - e) 1520) e h
  informed (K.U m response) ads s d e h = tt

-- promise 1, `rds_take`
pub taken_as_read : (f : List ℕ) (network : Bool) (g : Frame) → frame_of f network ≡ Some g → AsRead (taken_words f g) (words_of g)
unfolding part_words words_of head_words
taken_as_read f network g sound =
    let x = g.head in
    as_read (bit x.ads) x.source x.destination x.end (length f - x.end) g.list x.kind g.body
    (informed f (record { body = g.body; list = g.list }) x.kind x.ads x.source x.destination x.end (parts_of f network g sound).bodies)
