-- Head, Application ID and formats are the frame.
use mathlib.Core.Path.{◌≡◌, ap, ◌∙◌}
use native.Mathlib.Omega.{arith}
use lib.ListN.{length}
use Rattle.base_lists.proofs.StoresAndParts.{length_part}
use Rattle.rds_book.specs.declared.Place.{Place}
use Rattle.rds_book.specs.Book.{place_of, app_length, app_of_is}
use Rattle.rds_sending.specs.Sent.{command_octet, ports_octet, asking_head, offered, command_frame}
use Rattle.rds_sending.proofs.Joined.{sent_stored, sent_length}
use Rattle.std.proofs.Common.{rules}
use Rattle.rds_sending.proofs.send_command.Goals as goal

pub put_offered-more-requires : goal.put_offered-more-requires
put_offered-more-requires c =
    (search rules, search rules, search rules, ap (λ (x : Place). x.tag) c.place_at-c.ensures)

pub returns : goal.returns
unfolding app_of_is asking_head command_frame
returns c =
    let l = c.app_length-n in
    let h = c.asking_head-head in
    let b = c.args.book.now in
    let o = c.args.out.now in
    let x = place_of b 0 in
    let f : length (app_of_is b 0) ≡ app_length b 0 = length_part b 6 (app_length b 0) (omega (arith, l.ensures.0, l.ensures.1)) in
    let k = c.put_offered-more in (
      rw (k.ensures.0, l.ensures.0) (sent_length (command_octet b) 10 x.tag (ports_octet x.own x.peer) (app_length b 0) (app_of_is b 0) (offered b) f),
      k.ensures.1 ∙ rw (c.copy.ensures, c.store.ensures, h.ensures, c.place_at-c.ensures, l.ensures.0) (sent_stored (command_octet b) 10 x.tag (ports_octet x.own x.peer) (app_length b 0) (app_of_is b 0) (offered b) f o),
    )
