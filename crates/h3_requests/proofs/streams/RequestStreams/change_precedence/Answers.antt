-- The stream goes to its new class, with what of it waits, or stays in its class.
use Rattle.std.proofs.Common.{◌≡◌, ◌∙◌, ap, sym, subst, rules, inl, inr}
use Rattle.std.specs.Prelude.{◌≢◌, ◌≤◌, Some, nat_lt}
use Rattle.std.proofs.lemmas.Bool.{cases_eq}
use Rattle.h3_connection.specs.State.{OutgoingState, RequestState}
use Rattle.h3_outgoing.specs.Sent.{end_waits, takes_end}
use Rattle.h3_requests.specs.Classes.{class_at, class_of}
use Rattle.h3_requests.specs.HasBytes.{has_bytes, has_end}
use Rattle.h3_requests.specs.Ready.{AreKept, HasUrgency, Moves}
use Rattle.h3_requests.specs.Stored.{streams_in}
use Rattle.h3_requests.specs.declared.ready.ReadyStreams.{ReadyStreams}
use Rattle.h3_requests.proofs.Sendable.{both_kept, class_kept, moved, reclassed, written}
use Rattle.h3_requests.proofs.streams.RequestStreams.change_precedence.Goals as goal

pub invariant_of-self-in_default-settle_class : goal.invariant_of-self-in_default-settle_class
invariant_of-self-in_default-settle_class c =
    both_kept {s = c.self.inside.ready} {t = c.settle_class.new.self} c.in_default-settle_class.ensures.bytes c.in_default-settle_class.ensures.ends c.in_default-settle_class.ensures.places
    c.in_default-settle_class.ensures.classes
    (written _ _ _ _ c.args.id c.in-Some.stream.now _ (c.get_mut.follows.holds _) (search rules) (search rules) (search rules) (moved c.take_up.ensures.same c.self.invariant))

pub invariant_of-self-2 : goal.invariant_of-self-2
invariant_of-self-2 c =
    let before : RequestState = c.in-Some.stream.now in
    let after : RequestState = record { incoming = c.stream.inside.incoming; outgoing = c.set_precedence.new.self } in
    let bytes : nat_lt 0 c.waiting.result ≡ has_bytes (Some before) = search rules in
    let ends : c.end_waits.result ≡ has_end (Some before) = search rules in
    let may : c.takes_end.result ≡ takes_end before.outgoing = search rules in
    let now : c.class_of-after.result ≡ class_at (Some after) = c.class_of-after.ensures.value ∙ ap (λ (o : OutgoingState). class_of o.precedence) (sym c.set_precedence.ensures) in
    let was : c.class-before.result ≡ class_at (Some before) = search rules in
    let urgent : HasUrgency after = subst (λ (o : OutgoingState). o.precedence.priority.urgency ≤ 7) (sym c.set_precedence.ensures) c.class_of-after.ensures.urgency in
    let waits = ap (λ (r : RequestState). r.incoming.waits_for) c.stream.view_is in
    let pieces = ap (λ (o : OutgoingState). o.pieces) c.set_precedence.ensures ∙ ap (λ (r : RequestState). r.outgoing.pieces) c.stream.view_is in
    let end = ap end_waits c.set_precedence.ensures ∙ ap (λ (r : RequestState). end_waits r.outgoing) c.stream.view_is in
    let takes = ap takes_end c.set_precedence.ensures ∙ ap (λ (r : RequestState). takes_end r.outgoing) c.stream.view_is in
    moved c.retire_if.ensures (elim (cases_eq c.class-before.result c.class_of-after.result) [
      | inl same ↦
          subst (λ (s : ReadyStreams). AreKept c.self.inside.blocked s c.self.inside.seen (streams_in (c.get_mut.follows.lender after))) (sym (c.in-Ok.ensures.stays same))
          (class_kept _ _ _ _ c.args.id before after (c.get_mut.follows.holds _) (search rules) waits pieces end takes (sym now ∙ sym same ∙ was) urgent (moved c.take_up.ensures.same c.self.invariant))
      | inr differ ↦
          reclassed _ _ _ _ _ c.class-before.result c.args.id (record { bytes = nat_lt 0 c.waiting.result; end = c.end_waits.result; may_end = c.takes_end.result }) before after (c.get_mut.follows.holds _) (search rules) waits pieces end takes was (λ is. differ (is ∙ sym now)) urgent bytes ends may
          (subst (λ k. Moves c.class-before.result k c.args.id (record { bytes = nat_lt 0 c.waiting.result; end = c.end_waits.result; may_end = c.takes_end.result }) c.self.inside.ready c.settle_class.new.self) now (c.in-Ok.ensures.moves differ)) (moved c.take_up.ensures.same c.self.invariant)
    ])
