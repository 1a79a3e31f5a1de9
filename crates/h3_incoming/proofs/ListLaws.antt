-- Which list is handed out: that of the section that is next.
use Rattle.std.proofs.Common.{◌≡◌, ℕ, Bool, true, List, refl, ap, sym, ◌∙◌, subst}
use Rattle.std.specs.Prelude.{Option, Some, None, is_some}
use Rattle.std.specs.List.{concat}
use Rattle.h3_field.specs.Field.{Field}
use Rattle.h3_qpack.specs.DecoderState.{DecoderState}
use Rattle.h3_frames.specs.Frames.{Whole, frame_by}
use Rattle.h3_frames.specs.declared.proto.frame.PayloadLen.{PayloadLen}
use Rattle.h3_frames.specs.declared.proto.frame.Frame.{Frame}
use Rattle.h3_frames.specs.declared.proto.frame.Frame.TheVariants as frame
use Rattle.h3_connection.specs.Incoming.{Incoming, is_body}
use Rattle.h3_connection.specs.Skipping.{skipped}
use Rattle.h3_incoming.specs.Answering.{Lists}
use Rattle.h3_connection.specs.Coming.{fields_in, fields_next, next_section, section_in}
use Rattle.h3_incoming.specs.Finding.{FindsFrame}
use Rattle.h3_incoming.proofs.FrontLaws.{Reads, stored_is, found_now}
use Rattle.h3_connection.specs.StrictConnection.{kinds_of}
use Rattle.h3_connection.specs.declared.setup.Announced.{Announced}

pub lists_same : (listed : Option (List Field)) (fields : List Field) → listed ≡ Some fields → Lists listed (Some fields)
lists_same listed fields e = subst (λ o. Lists o (Some fields)) (sym e) refl

-- the section that waits is next
pub next_waiting : (own : Announced) (r : DecoderState) (i : Incoming) (section : Option (List ℕ)) → i.section ≡ section → is_some section ≡ true → fields_next own r i ≡ fields_in r i.section
next_waiting own r i (Some bytes) e there = ap (λ o. fields_in r (next_section own i o)) e ∙ ap (fields_in r) (sym e)
next_waiting own r i None e there = absurd (cc)

-- or that of the next frame
pub next_framed : (own : Announced) (r : DecoderState) (old stored : Incoming) (left : List (List ℕ)) (in_body : Bool) (f : Frame PayloadLen) (bytes : List ℕ) → Reads old stored left in_body
    → FindsFrame (kinds_of own) in_body f (concat stored.unread) (concat left) → old.section ≡ None → f ≡ frame.Headers bytes → fields_next own r old ≡ fields_in r (Some bytes)
next_framed own r old stored left in_body f bytes reads h none is =
    let there : frame_by (kinds_of own) (skipped (kinds_of own) (is_body old.place) (concat old.unread)) ≡ Whole f (concat left) =
    found_now (kinds_of own) (is_body old.place) f (concat old.unread) (concat left) (stored_is (λ b l. FindsFrame (kinds_of own) b f l (concat left)) old stored left in_body reads h) in
    ap (fields_in r) (ap (next_section own old) none ∙ ap section_in there ∙ ap (λ g. section_in (Whole g (concat left))) is)
