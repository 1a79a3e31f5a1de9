-- The places are those of the streams, and a number of a stream that sends is an id.
use Rattle.std.proofs.Common.{◌≡◌, ap, sym, subst, ◌∙◌, rules}
use Rattle.std.specs.Prelude.{Some, None}
use Rattle.h3_scheduler.specs.TurnLaws.{next_alike}
use Rattle.h3_requests.specs.Ordered.{places_in}
use Rattle.h3_requests.specs.Ready.{stands_in}
use Rattle.h3_requests.proofs.Ordered.{next_few, stand_alike}
use Rattle.h3_requests.proofs.streams.RequestStreams.next_by_priority.Goals as goal

pub returns-in_default : goal.returns-in_default
returns-in_default c =
    next_alike (stands_in c.self.inside.ready) (places_in c.args.self.now) c.args.rounds.now.rounds None (λ u k q. sym (ap (λ s. places_in s u k q) c.self.view_is) ∙ stand_alike c.self.invariant u k q) (search rules)

pub unreachable-requires : goal.unreachable-requires
unreachable-requires c =
    let few = next_few c.self.inside.ready c.args.rounds.now.rounds c.in-Some.number (search rules) in
    search (rules, few)

pub returns : goal.returns
returns c =
    let next =
    next_alike (stands_in c.self.inside.ready) (places_in c.args.self.now) c.args.rounds.now.rounds (Some c.in-Some.number) (λ u k q. sym (ap (λ s. places_in s u k q) c.self.view_is) ∙ stand_alike c.self.invariant u k q) (search rules) in
    search (rules, next)
