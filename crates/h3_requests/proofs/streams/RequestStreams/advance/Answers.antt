-- Whether bytes still wait is what is left of those that waited.
use Rattle.std.proofs.Common.{rules, ◌≡◌, sym, ◌∙◌, ap}
use Rattle.std.specs.Option.{option_copied_mut}
use Rattle.h3_connection.specs.State.{RequestState, kept_at}
use Rattle.h3_outgoing.specs.Sent.{end_waits, takes_end}
use Rattle.h3_requests.specs.Stored.{over_at}
use Rattle.h3_requests.specs.Listed.{either}
use Rattle.h3_requests.proofs.Ways.{over_advanced}
use Rattle.h3_requests.proofs.Sendable.{had_place, moved, ready_before, settled}
use Rattle.h3_requests.proofs.streams.RequestStreams.advance.Goals as goal

pub settle_rest-requires : goal.settle_rest-requires
settle_rest-requires c = ready_before _ _ _ _ c.args.id c.min.result _ c.in-Some.stream.now c.self.invariant (search rules) (search rules) (search rules)

pub invariant_of-self-2 : goal.invariant_of-self-2
invariant_of-self-2 c =
    let after : RequestState = record { incoming = c.stream.inside.incoming; outgoing = c.advance.new.self } in
    moved c.retire_if.ensures
    (settled _ _ _ _ _ _ c.args.id _ c.in-Some.stream.now after (c.get_mut.follows.holds _) (search rules) (ap (λ (r : RequestState). r.incoming.waits_for) c.stream.view_is) c.settle_rest.ensures.bytes (search rules) c.settle_rest.ensures.ends (ap end_waits c.advance.ensures ∙ ap (λ (r : RequestState). end_waits r.outgoing) c.stream.view_is)
    (had_place _ _ _ _ c.args.id c.in-Some.stream.now after (c.get_mut.follows.holds _) (search rules) (ap takes_end c.advance.ensures ∙ ap (λ (r : RequestState). takes_end r.outgoing) c.stream.view_is) c.self.invariant _ (search rules)) (search rules) (ap (λ o. o.precedence) c.advance.ensures ∙ ap (λ (r : RequestState). r.outgoing.precedence) c.stream.view_is) c.settle_rest.ensures.classes c.self.invariant)

-- nothing waits on a stream that is over
pub returns-in_default-clause-there : goal.returns-in_default-clause-there
returns-in_default-clause-there c =
    let found : kept_at c.args.self.now c.args.id ≡ over_at c.self.inside.streams c.args.id =
    ap (λ l. kept_at l c.args.id) (sym c.self.view_is) ∙ c.get_mut.ensures.found ∙ ap (λ o. either o (over_at c.self.inside.streams c.args.id)) (sym c.get_mut.ensures.value ∙ ap option_copied_mut c.in_default.is) in
    let h = over_advanced c.args.self.now c.args.id c.args.count (over_at c.self.inside.streams c.args.id) found (search (rules, c.is_over.ensures.over)) in
    search (rules, h)
