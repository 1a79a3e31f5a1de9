-- What a stream has is what one has that is like it but for the code of a reset.
use Rattle.std.proofs.Common.{◌≡◌, ℕ, ◌+◌, Bool, true, false, [], refl, sym, ◌∙◌, ap, if◌then◌else◌}
use Rattle.h3_coding.specs.VarintLaws.{none_at_end}
use Rattle.h3_frames.specs.FrameLeft.{left_behind_type}
use Rattle.h3_frames.specs.UnknownSize.{is_under_way}
use Rattle.std.specs.Prelude.{Option, Some, None, is_some, option_map, unwrap_or, ◌||◌}
use Rattle.h3_proto.specs.declared.stream.Side.{Side}
use Rattle.h3_proto.specs.declared.stream.Side.TheVariants.{Client, Server}
use Rattle.h3_connection.specs.Delivering.{closed_refusal}
use Rattle.h3_connection.specs.FrameLeft.{frame_left_of_request}
use Rattle.h3_connection.specs.Incoming.{nothing_came}
use Rattle.h3_connection.specs.Keeping.{is_settled_request}
use Rattle.h3_connection.specs.Prioritizing.{takes_no_response}
use Rattle.h3_connection.specs.Unread.{counted, held_of_request}
use Rattle.h3_connection.specs.State.{RequestState, kept_at}
use Rattle.h3_connection.specs.declared.event.Refusal.{Refusal}
use Rattle.h3_connection.specs.declared.event.Refusal.TheVariants as refusal
use Rattle.h3_connection.specs.StreamSets.{Streams}
use Rattle.h3_connection.specs.declared.event.StreamFault.{StreamFault}
use Rattle.h3_connection.specs.declared.event.StreamFault.TheVariants.{Canceled, Malformed, Reset}
use Rattle.h3_requests.specs.Changing.{receiver_refusal}
use Rattle.h3_requests.specs.Over.{AreAlike, codeless, without_code}
use Rattle.h3_connection.specs.StrictConnection.{kinds_of}
use Rattle.h3_connection.specs.declared.setup.Announced.{Announced}

parts_stay : {X : Type 0} (g : RequestState → X) → ((r : RequestState) → g (codeless r) ≡ g r) → (a : Option RequestState) → option_map g a ≡ option_map g (option_map codeless a)
parts_stay g same None = refl
parts_stay g same (Some r) = ap Some (sym (same r))

-- A part that has no code is the same.
pub part_is : {X : Type 0} (g : RequestState → X) → ((r : RequestState) → g (codeless r) ≡ g r) → (streams model : Streams RequestState) (id : ℕ) (a : Option RequestState) → streams ≡ model → AreAlike a (kept_at streams id)
    → option_map g a ≡ option_map g (kept_at model id)
part_is g same streams model id a view alike =
    parts_stay g same a ∙ ap (option_map g) alike ∙ sym (parts_stay g same (kept_at streams id)) ∙ ap (λ l. option_map g (kept_at l id)) view

-- whether it is there,
pub there_is : (streams model : Streams RequestState) (id : ℕ) (a : Option RequestState) → streams ≡ model → AreAlike a (kept_at streams id) → is_some a ≡ is_some (kept_at model id)
there_is streams model id a view alike = sym (some_stays a) ∙ ap is_some (part_is (λ r. r.incoming.ended) (λ r. refl) streams model id a view alike) ∙ some_stays (kept_at model id)
  where
    some_stays : (o : Option RequestState) → is_some (option_map (λ r. r.incoming.ended) o) ≡ is_some o
    some_stays None = refl
    some_stays (Some r) = refl

fault_stays : (fault : Option StreamFault) → is_some (without_code fault) ≡ is_some fault
fault_stays None = refl
fault_stays (Some (Reset code)) = refl
fault_stays (Some (Malformed why)) = refl
fault_stays (Some Canceled) = refl

abbrev is_settled_stream : RequestState → Bool
is_settled_stream r = is_some r.incoming.fault || r.incoming.is_over

settled_of : (o : Option RequestState) → is_settled_request (option_map (λ r. r.incoming) o) ≡ unwrap_or (option_map is_settled_stream o) false
settled_of None = refl
settled_of (Some r) = refl

-- whether nothing more is handed out of it,
pub settled_is : (streams model : Streams RequestState) (id : ℕ) (a : Option RequestState) → streams ≡ model → AreAlike a (kept_at streams id)
    → is_settled_request (option_map (λ r. r.incoming) a) ≡ is_settled_request (option_map (λ r. r.incoming) (kept_at model id))
settled_is streams model id a view alike =
    settled_of a ∙ ap (λ o. unwrap_or o false) (part_is is_settled_stream (λ r. ap (λ given_up. given_up || r.incoming.is_over) (fault_stays r.incoming.fault)) streams model id a view alike) ∙ sym (settled_of (kept_at model id))

-- whether no response comes any more,
pub response_is : (streams model : Streams RequestState) (id : ℕ) (a : Option RequestState) → streams ≡ model → AreAlike a (kept_at streams id)
    → unwrap_or (option_map (λ r. takes_no_response r.incoming) a) false ≡ unwrap_or (option_map (λ r. takes_no_response r.incoming) (kept_at model id)) false
response_is streams model id a view alike =
    ap (λ o. unwrap_or o false)
    (part_is (λ r. takes_no_response r.incoming) (λ r. ap (λ given_up. (r.incoming.ended || r.incoming.was_reset) || given_up) (fault_stays r.incoming.fault)) streams model id a view alike)

abbrev refused_by : Side → Option Bool → Option Refusal
refused_by Client None = Some refusal.NotOpen
refused_by Server None = None
refused_by side (Some is_closed) = closed_refusal is_closed

abbrev has_ended : RequestState → Bool
has_ended r = r.incoming.ended || r.incoming.was_reset

refusal_of : (side : Side) (o : Option RequestState) → receiver_refusal side o ≡ refused_by side (option_map has_ended o)
refusal_of Client None = refl
refusal_of Client (Some r) = refl
refusal_of Server None = refl
refusal_of Server (Some r) = refl

-- and why what comes on it is refused
pub refusal_is : (side : Side) (streams model : Streams RequestState) (id : ℕ) (a : Option RequestState) → streams ≡ model → AreAlike a (kept_at streams id) → receiver_refusal side a ≡ receiver_refusal side (kept_at model id)
refusal_is side streams model id a view alike = refusal_of side a ∙ ap (refused_by side) (part_is has_ended (λ r. refl) streams model id a view alike) ∙ sym (refusal_of side (kept_at model id))

-- of nothing nothing is held
none_held : (own : Announced) → counted (held_of_request own nothing_came) ≡ 0
none_held own = by_test (is_under_way (kinds_of own) [])
  where
    by_test : (b : Bool) → counted ((if b then 0 else 0) + 0) ≡ 0
    by_test true = refl
    by_test false = refl

held_of : (own : Announced) (o : Option RequestState) → counted (held_of_request own (unwrap_or (option_map (λ r. r.incoming) o) nothing_came)) ≡ unwrap_or (option_map (λ r. counted (held_of_request own r.incoming)) o) 0
held_of own None = none_held own
held_of own (Some r) = refl

-- how much of it is held
pub held_is : (own : Announced) (streams model : Streams RequestState) (id : ℕ) (a : Option RequestState) → streams ≡ model → AreAlike a (kept_at streams id)
    → counted (held_of_request own (unwrap_or (option_map (λ r. r.incoming) a) nothing_came)) ≡ counted (held_of_request own (unwrap_or (option_map (λ r. r.incoming) (kept_at model id)) nothing_came))
held_is own streams model id a view alike =
    held_of own a ∙ ap (λ o. unwrap_or o 0) (part_is (λ r. counted (held_of_request own r.incoming)) (λ r. refl) streams model id a view alike) ∙ sym (held_of own (kept_at model id))

-- of a frame nothing is to come where nothing came
pub nothing_left : 0 ≡ frame_left_of_request nothing_came
nothing_left = ap left_behind_type (sym none_at_end)

left_of : (o : Option RequestState) → frame_left_of_request (unwrap_or (option_map (λ r. r.incoming) o) nothing_came) ≡ unwrap_or (option_map (λ r. frame_left_of_request r.incoming) o) 0
left_of None = sym nothing_left
left_of (Some r) = refl

-- and how much of a frame is still to come
pub left_is : (streams model : Streams RequestState) (id : ℕ) (a : Option RequestState) → streams ≡ model → AreAlike a (kept_at streams id)
    → frame_left_of_request (unwrap_or (option_map (λ r. r.incoming) a) nothing_came) ≡ frame_left_of_request (unwrap_or (option_map (λ r. r.incoming) (kept_at model id)) nothing_came)
left_is streams model id a view alike =
    left_of a ∙ ap (λ o. unwrap_or o 0) (part_is (λ r. frame_left_of_request r.incoming) (λ r. refl) streams model id a view alike) ∙ sym (left_of (kept_at model id))
