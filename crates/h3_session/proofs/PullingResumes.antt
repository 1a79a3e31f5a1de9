-- A request stream whose pull was refused memory goes on as if it had not been asked.
use Rattle.std.proofs.Common.{◌≡◌, ◌⊎◌, ℕ, Bool, true, false, List, [], ◌∷◌, ◌++◌, append-nil, append_assoc, None, refl, ap, sym, ◌∙◌, subst}
use Rattle.std.specs.Prelude.{◌||◌, is_some, if◌then◌else◌}
use Rattle.h3_proto.specs.declared.stream.Side.{Side}
use Rattle.h3_frames.specs.Pieces.{with_piece}
use Rattle.h3_frames.specs.declared.frame.kinds.FrameKinds.{FrameKinds}
use Rattle.h3_connection.specs.Coming.{fields_next}
use Rattle.h3_connection.specs.Delivering.{kept}
use Rattle.h3_connection.specs.Incoming.{Incoming}
use Rattle.h3_connection.specs.PartReading.{HasNoSection, ResumesPlainly, StandsNext, unsaid, with_pieces, with_more}
use Rattle.h3_connection.specs.PartReading.{Resumes as GoesOnAsBefore}
use Rattle.h3_connection.specs.Pulling.{pull_stream}
use Rattle.h3_connection.specs.StrictConnection.{kinds_of}
use Rattle.h3_connection.specs.declared.setup.Announced.{Announced}
use Rattle.h3_incoming.specs.Resuming.{PullsAlike, Resumes, delivered}

-- an empty piece is none
abbrev some_pieces : List (List ℕ) → List (List ℕ)
some_pieces [] = []
some_pieces ([] ∷ pieces) = some_pieces pieces
some_pieces ((byte ∷ bytes) ∷ pieces) = (byte ∷ bytes) ∷ some_pieces pieces

abbrev having : Incoming → List (List ℕ) → Incoming
having i pieces = record i { unread = pieces }

kept_piece : (i : Incoming) (bytes : List ℕ) → i.fault ≡ None → kept i bytes ≡ having i (with_piece i.unread bytes)
kept_piece i bytes none = ap (λ o. having i (if is_some o then [] else with_piece i.unread bytes)) none

pieces_are : (i : Incoming) (pieces : List (List ℕ)) → i.fault ≡ None → with_pieces i pieces ≡ having i (i.unread ++ some_pieces pieces)
pieces_are i [] none = ap (having i) (sym (append-nil i.unread))
pieces_are i ([] ∷ pieces) none = ap (λ j. with_pieces j pieces) (kept_piece i [] none) ∙ pieces_are i pieces none
pieces_are i ((byte ∷ bytes) ∷ pieces) none =
    ap (λ j. with_pieces j pieces) (kept_piece i (byte ∷ bytes) none)
    ∙ pieces_are (having i (i.unread ++ (byte ∷ bytes) ∷ [])) pieces none
    ∙ ap (having i) (append_assoc i.unread ((byte ∷ bytes) ∷ []) (some_pieces pieces))

or_false : (b : Bool) → b ≡ (b || false)
or_false true = refl
or_false false = refl

or_true : (b : Bool) → true ≡ (b || true)
or_true true = refl
or_true false = refl

more_is : (i : Incoming) (pieces : List (List ℕ)) (ends : Bool) → i.fault ≡ None → with_more i pieces ends ≡ delivered i (some_pieces pieces) ends
more_is i pieces true none = ap (λ (j : Incoming). record j { ended = true }) (pieces_are i pieces none) ∙ ap (λ b. record i { unread = i.unread ++ some_pieces pieces; ended = b }) (or_true i.ended)
more_is i pieces false none = pieces_are i pieces none ∙ ap (λ b. record i { unread = i.unread ++ some_pieces pieces; ended = b }) (or_false i.ended)

same_but : (own : Announced) (old new : Incoming) → Resumes own old new → new ≡ record old { unread = new.unread; section = new.section; body_left = new.body_left; content = new.content }
same_but own old new h =
    ap (λ x. record new { response = x }) h.response
    ∙ ap (λ x. record new { response = old.response; place = x }) h.place
    ∙ ap (λ x. record new { response = old.response; place = old.place; waits_for = x }) h.waits_for
    ∙ ap (λ x. record new { response = old.response; place = old.place; waits_for = old.waits_for; tries = x }) h.tries
    ∙ ap (λ x. record new { response = old.response; place = old.place; waits_for = old.waits_for; tries = old.tries; ended = x }) h.ended
    ∙ ap (λ x. record new { response = old.response; place = old.place; waits_for = old.waits_for; tries = old.tries; ended = old.ended; was_reset = x }) h.was_reset
    ∙ ap (λ x. record new { response = old.response; place = old.place; waits_for = old.waits_for; tries = old.tries; ended = old.ended; was_reset = old.was_reset; is_over = x }) h.is_over
    ∙ ap (λ x. record new { response = old.response; place = old.place; waits_for = old.waits_for; tries = old.tries; ended = old.ended; was_reset = old.was_reset; is_over = old.is_over; fault = x }) h.fault

goes_on : (side : Side) (own : Announced) (id : ℕ) (old new : Incoming) → new ≡ record old { unread = new.unread; section = new.section; body_left = new.body_left; content = new.content }
    → PullsAlike own old new → StandsNext (kinds_of own) old new → old.fault ≡ None → new.fault ≡ None → GoesOnAsBefore side own id old new
goes_on side own id old new same alike next none still = record {
  same = same;
  pulls = λ r pieces ends. ap (pull_stream side own id r) (more_is old pieces ends none)
      ∙ sym (alike.pulls side id r (some_pieces pieces) ends)
      ∙ sym (ap (pull_stream side own id r) (more_is new pieces ends still));
  lists = λ r pieces ends.
      subst (λ (i : Incoming). HasNoSection (pull_stream side own id r i).answer ⊎ (fields_next own r (with_more new pieces ends) ≡ fields_next own r i)) (sym (more_is old pieces ends none))
      (subst (λ (i : Incoming). HasNoSection (pull_stream side own id r (delivered old (some_pieces pieces) ends)).answer ⊎ (fields_next own r i ≡ fields_next own r (delivered old (some_pieces pieces) ends))) (sym (more_is new pieces ends still))
      (alike.lists side id r (some_pieces pieces) ends));
  next = next;
}

pub goes_on_as_before : (side : Side) (own : Announced) (id : ℕ) (old new : Incoming) → Resumes own old new → old.fault ≡ None → GoesOnAsBefore side own id old new
goes_on_as_before side own id old new h none = goes_on side own id old new (same_but own old new h) h.alike h.next none (h.fault ∙ none)

-- and so it does where nothing is known of the content
pub goes_on_plainly : (side : Side) (own : Announced) (id : ℕ) (old new : Incoming) → Resumes own old new → old.fault ≡ None → ResumesPlainly side own id old new
goes_on_plainly side own id old new h none other known no_limit =
    goes_on side other id (unsaid old) (unsaid new) (ap unsaid (same_but own old new h)) (h.plainly other known no_limit)
    (subst (λ (kinds : FrameKinds). StandsNext kinds (unsaid old) (unsaid new)) (sym known) h.next) none (h.fault ∙ none)
