-- The request that is opened next is known by what is stored.
use Rattle.std.proofs.Common.{◌≡◌, ◌≤◌, ◌^◌, ◌∙◌, ℕ, Bool, true, false, if◌then◌else◌, ap}
use Rattle.std.specs.Prelude.{nat_le, not, Option, Some, None, Ok, Err}
use Rattle.std.proofs.lemmas.Bool.{le-leb}
use Rattle.h3_connection.specs.Lasts.{last_id}
use Rattle.h3_connection.specs.Pulling.{is_client}
use Rattle.h3_connection.specs.Refusals.{going_away}
use Rattle.h3_connection.specs.Sending.{closed_or, open_refusal}
use Rattle.h3_connection.specs.State.{EndpointState}
use Rattle.h3_connection.specs.declared.event.Refusal.{Refusal}
use Rattle.h3_connection.specs.declared.event.Refusal.TheVariants as refusal
use Rattle.h3_proto.specs.declared.stream.Side.{Side}
use Rattle.h3_proto.specs.declared.stream.Side.TheVariants.{Client, Server}
use Rattle.h3_session.specs.Refused.{open_refused}
use Rattle.h3_session.specs.NextRequest.{ShowsNextRequest, id_unless}
use Rattle.h3_session.proofs.SendingRefusals.{open_refusal_is}

shows : (s : EndpointState) (refused : Option Refusal) → refused ≡ open_refused s → ShowsNextRequest s (id_unless s.next_id refused)
shows s refused is = λ e h. ap (id_unless s.next_id) (is ∙ open_refusal_is s e h) ∙ ap (λ id. id_unless id (open_refusal e)) h.next_id

pub shows_refusal : (s : EndpointState) (r : Refusal) → Some r ≡ open_refused s → ShowsNextRequest s (Err r)
shows_refusal s r is = shows s (Some r) is

pub shows_id : (s : EndpointState) (id : ℕ) → None ≡ open_refused s → id ≡ s.next_id → ShowsNextRequest s (Ok id)
shows_id s id is same = λ e h. ap Ok same ∙ shows s None is e h

-- an id past the last one is refused before
pub used_up : (closed : Option ℕ) (side : Side) (last : Option ℕ) (later : Bool) → later ≡ true
    → None ≡ closed_or closed (if not (is_client side) then Some refusal.NotClient else going_away last (if later then Some refusal.IdsUsedUp else None)) → ⊥
used_up (Some code) side last true far is = absurd (cc)
used_up None Server last true far is = absurd (cc)
used_up None Client (Some id) true far is = absurd (cc)
used_up None Client None true far is = absurd (cc)
used_up closed side last false far is = absurd (cc)

pub shows_far : (s : EndpointState) → None ≡ open_refused s → 2 ^ 62 ≤ s.next_id → ShowsNextRequest s (Err refusal.IdsUsedUp)
shows_far s is far = absurd (used_up s.closed s.side (last_id s.peer.goaways) (nat_le (2 ^ 62) s.next_id) (le-leb (2 ^ 62) s.next_id far) is)
