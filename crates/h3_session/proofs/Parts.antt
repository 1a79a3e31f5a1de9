-- One more part of a message that is sent: where it is then, and that the stream stands for it.
use Rattle.std.proofs.Common.{◌≡◌, Bool, true, false, if◌then◌else◌, List, [], ◌∷◌, ◌++◌, refl, ap, sym, ◌∙◌}
use Rattle.std.specs.Prelude.{not, ◌&&◌}
use Rattle.h3_outgoing.specs.HistoryLaws.{body_taken, head_taken}
use Rattle.h3_outgoing.specs.Sent as sent
use Rattle.h3_connection.specs.Outgoing.{Outgoing, OwnPart, is_unsent, is_interim_part, last_is_trailer, is_trailer}
use Rattle.h3_connection.specs.State.{OutgoingState, IsOfOutgoing, place_of}
use Rattle.h3_connection.specs.declared.place.SendPlace.TheVariants.{NothingSent, HeadSent, TrailerSent}

unsent_pushed : (parts : List OwnPart) (p : OwnPart) → is_unsent (parts ++ p ∷ []) ≡ (is_unsent parts && is_interim_part p)
unsent_pushed [] p = by (is_interim_part p)
  where
    by : (b : Bool) → (b && true) ≡ (true && b)
    by true = refl
    by false = refl
unsent_pushed (q ∷ parts) p = ap (λ b. is_interim_part q && b) (unsent_pushed parts p) ∙ by (is_interim_part q) (is_unsent parts) (is_interim_part p)
  where
    by : (a b c : Bool) → (a && (b && c)) ≡ ((a && b) && c)
    by true b c = refl
    by false b c = refl

last_pushed : (parts : List OwnPart) (p : OwnPart) → last_is_trailer (parts ++ p ∷ []) ≡ is_trailer p
last_pushed [] p = refl
last_pushed (q ∷ []) p = refl
last_pushed (q ∷ r ∷ parts) p = last_pushed (r ∷ parts) p

-- the place behind a part: by what the parts before it were, and by that one
pub place_pushed : (parts : List OwnPart) (p : OwnPart) → place_of (parts ++ p ∷ []) ≡ (if is_unsent parts && is_interim_part p then NothingSent else (if is_trailer p then TrailerSent else HeadSent))
place_pushed parts p =
    ap (λ b. if b then NothingSent else (if last_is_trailer (parts ++ p ∷ []) then TrailerSent else HeadSent)) (unsent_pushed parts p)
    ∙ ap (λ b. if is_unsent parts && is_interim_part p then NothingSent else (if b then TrailerSent else HeadSent)) (last_pushed parts p)

-- What a stream that takes a body, or a head, is.
pub record InBody (o : Outgoing) : Type 0 where
  pub here : o.is_reset ≡ false
  pub sent : is_unsent o.parts ≡ false
  pub last : last_is_trailer o.parts ≡ false

pub record BeforeHead (o : Outgoing) : Type 0 where
  pub here : o.is_reset ≡ false
  pub unsent : is_unsent o.parts ≡ true

in_body_by : (finished reset unsent trailer : Bool) → (((not finished && not reset) && not unsent) && not trailer) ≡ true → (reset ≡ false) × (unsent ≡ false) × (trailer ≡ false)
in_body_by true reset unsent trailer h = absurd (cc)
in_body_by false true unsent trailer h = absurd (cc)
in_body_by false false true trailer h = absurd (cc)
in_body_by false false false true h = absurd (cc)
in_body_by false false false false h = (refl, refl, refl)

before_by : (finished reset unsent : Bool) → ((not finished && not reset) && unsent) ≡ true → (reset ≡ false) × (unsent ≡ true)
before_by true reset unsent h = absurd (cc)
before_by false true unsent h = absurd (cc)
before_by false false false h = absurd (cc)
before_by false false true h = (refl, refl)

pub in_body : (o : Outgoing) (w : OutgoingState) → IsOfOutgoing o w → sent.takes_body w ≡ true → InBody o
in_body o w h takes =
    let is = in_body_by o.is_finished o.is_reset (is_unsent o.parts) (last_is_trailer o.parts) (sym (body_taken o w h) ∙ takes) in
    record { here = is.0; sent = is.1; last = is.2 }

pub before_head : (o : Outgoing) (w : OutgoingState) → IsOfOutgoing o w → sent.takes_head w ≡ true → BeforeHead o
before_head o w h takes =
    let is = before_by o.is_finished o.is_reset (is_unsent o.parts) (sym (head_taken o w h) ∙ takes) in
    record { here = is.0; unsent = is.1 }

-- a body leaves the message where it is
pub body_stays : (o : Outgoing) (w : OutgoingState) (p : OwnPart) → IsOfOutgoing o w → InBody o → is_interim_part p ≡ false → is_trailer p ≡ false → w.place ≡ place_of (o.parts ++ p ∷ [])
body_stays o w p h is interim trailer =
    h.place ∙ ap (λ b. if b then NothingSent else (if last_is_trailer o.parts then TrailerSent else HeadSent)) is.sent ∙ ap (λ b. if b then TrailerSent else HeadSent) is.last
    ∙ sym (place_pushed o.parts p ∙ ap (λ b. if b && is_interim_part p then NothingSent else (if is_trailer p then TrailerSent else HeadSent)) is.sent ∙ ap (λ b. if b then TrailerSent else HeadSent) trailer)
