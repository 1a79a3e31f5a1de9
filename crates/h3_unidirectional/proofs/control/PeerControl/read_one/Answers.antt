use Rattle.std.proofs.Common.{refl, ap, sym, ◌∙◌}
use Rattle.std.specs.List.{concat}
use Rattle.h3_frames.specs.UnreadFrames.{UnreadFrames}
use Rattle.h3_unidirectional.proofs.PeerLaws.{peer_refused}
use Rattle.h3_unidirectional.specs.contracts.control.PeerControl.{the_view}
use Rattle.h3_unidirectional.proofs.FirstReads.{no_goaway_first, no_push_first, no_update_first}
use Rattle.h3_unidirectional.proofs.ControlFronts.{one_excessive, one_read, one_fault, goaway_read, update_read, settings_read, refused_front}
use Rattle.h3_unidirectional.proofs.OthersTold.{settings_first}
use Rattle.h3_unidirectional.proofs.control.PeerControl.read_one.Goals as goal

pub returns-then-is_excessive-clause-ok : goal.returns-then-is_excessive-clause-ok
returns-then-is_excessive-clause-ok c =
    rw (sym c.self.view_is)
    (one_excessive _ _ _ _ _ _ (sym c.is_excessive.ensures ∙ c.if-is_excessive.true) refl (ap (λ (u : UnreadFrames). concat u.pieces) c.new.ensures))

pub returns-in-Settings-clause-ok : goal.returns-in-Settings-clause-ok
returns-in-Settings-clause-ok c =
    let gives = rw c.in-Ok-Some.field-0-is at c.in-Ok-Some.ensures.gives in
    rw (sym c.self.view_is)
    (settings_read _ _ _ _ _ _ _ _ _ _ _ (sym c.is_excessive.ensures ∙ c.if-is_excessive.false) c.reserve.ensures.items c.reserve-2.ensures.same gives c.in-Settings.ensures c.in_ok-told.ensures c.take_settings.ensures)

pub returns-in-Goaway-clause-ok : goal.returns-in-Goaway-clause-ok
returns-in-Goaway-clause-ok c =
    let gives = rw c.in-Ok-Some.field-0-is at c.in-Ok-Some.ensures.gives in
    rw (sym c.self.view_is)
    (goaway_read _ _ _ _ _ _ _ _ _ _ (sym c.is_excessive.ensures ∙ c.if-is_excessive.false) c.reserve.ensures.items c.reserve-2.ensures.same c.push_reserved.ensures.items gives c.in-Goaway.ensures)

pub returns-in-MaxPushId-clause-ok : goal.returns-in-MaxPushId-clause-ok
returns-in-MaxPushId-clause-ok c =
    let gives = rw c.in-Ok-Some.field-0-is at c.in-Ok-Some.ensures.gives in
    rw (sym c.self.view_is) (one_read _ _ _ _ _ _ _ _ _ (sym c.is_excessive.ensures ∙ c.if-is_excessive.false) c.reserve.ensures.items c.reserve-2.ensures.same gives c.in-MaxPushId.ensures refl)

pub returns-in-Update-clause-ok : goal.returns-in-Update-clause-ok
returns-in-Update-clause-ok c =
    let gives = rw c.in-Ok-Some.field-0-is at c.in-Ok-Some.ensures.gives in
    rw (sym c.self.view_is)
    (update_read _ _ _ _ _ _ _ _ _ _ _ (sym c.is_excessive.ensures ∙ c.if-is_excessive.false) c.reserve.ensures.items c.reserve-2.ensures.same c.put.ensures gives c.in-Update.ensures)

pub returns-in-Ok-Some-clause-ok : goal.returns-in-Ok-Some-clause-ok
returns-in-Ok-Some-clause-ok c =
    let gives = rw c.in-Ok-Some.field-0-is at c.in-Ok-Some.ensures.gives in
    rw (sym c.self.view_is) (one_fault _ _ _ _ _ _ _ _ _ _ (sym c.is_excessive.ensures ∙ c.if-is_excessive.false) c.reserve.ensures.items c.reserve-2.ensures.same gives c.in-Fault.ensures)

pub returns-in-Err-Proto-clause-ok : goal.returns-in-Err-Proto-clause-ok
returns-in-Err-Proto-clause-ok c =
    let gives = rw c.in-Err-Proto.field-0-is at c.in-Err-Proto.ensures.gives in
    rw (sym c.self.view_is, c.reserve.ensures.items, c.reserve-2.ensures.same, c.refused.ensures, c.in-Err-Proto.e-is)
    (peer_refused _ _ _ _ _ _ (sym c.is_excessive.ensures ∙ c.if-is_excessive.false) gives.0 gives.1)

pub returns : goal.returns
returns c = record {
  ok = tt;
  refused = rw (sym c.self.view_is) (refused_front _ _ _ _ _ _ _ _ c.reserve.ensures.items c.reserve-2.ensures.same c.in-Err.ensures.gives);
  first = λ none. tt;
  unknown = rw (sym c.self.view_is) refl;
}

pub returns-in-Settings-clause-first : goal.returns-in-Settings-clause-first
returns-in-Settings-clause-first c = rw (sym c.self.view_is) (λ none. settings_first (the_view c.self.inside) _ _ _ _ _ _ c.reserve.ensures.items c.reserve-2.ensures.same c.take_settings.ensures)

pub returns-in-Goaway-clause-first : goal.returns-in-Goaway-clause-first
returns-in-Goaway-clause-first c = rw (sym c.self.view_is) (λ none. absurd (no_goaway_first _ _ _ _ _ none c.in-Goaway.ensures))

pub returns-in-MaxPushId-clause-first : goal.returns-in-MaxPushId-clause-first
returns-in-MaxPushId-clause-first c = rw (sym c.self.view_is) (λ none. absurd (no_push_first _ _ _ _ _ none none c.in-MaxPushId.ensures))

pub returns-in-Update-clause-first : goal.returns-in-Update-clause-first
returns-in-Update-clause-first c = rw (sym c.self.view_is) (λ none. absurd (no_update_first _ _ _ _ _ none none c.in-Update.ensures))
