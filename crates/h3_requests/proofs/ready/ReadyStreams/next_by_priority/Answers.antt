-- The next of the round, or else the first of another.
use Rattle.std.proofs.Common.{arith, rules, ◌≡◌, ◌<◌, ◌+◌, ◌*◌, ◌/◌, ◌∙◌, ap, subst, refl, true, false}
use Rattle.h3_connection.specs.NextWaiting.{IsLeast}
use Rattle.h3_scheduler.specs.Least as scheduler
use Rattle.h3_scheduler.specs.Rounds.{round_at, within}
use Rattle.h3_scheduler.specs.TurnLaws.{next_in_another, next_in_round}
use Rattle.h3_requests.specs.Ready.{stands_in}
use Rattle.h3_requests.proofs.Ordered.{first_urgency, least_at, lesser_there}
use Rattle.h3_requests.proofs.ready.ReadyStreams.next_by_priority.Goals as goal

pub returns-then-is_some : goal.returns-then-is_some
returns-then-is_some c =
    let few : c.in-Some.first < 16 = search rules in
    let urgency = c.in-Some.first / 2 in
    let less : urgency < 8 = omega (arith, few) in
    let round_is : c.of-round.result ≡ round_at c.args.rounds.now.rounds urgency = c.of-round.ensures in
    let from_is : c.from.result ≡ (round_at c.args.rounds.now.rounds urgency).from = c.from.ensures ∙ ap (λ r. r.from) round_is in
    next_in_round (stands_in c.args.self.now) c.args.rounds.now.rounds urgency c.least-plain.result c.least-shared.result c.lesser-next.result (first_urgency c.args.self.now c.in-Some.first few c.in-Some.ensures)
    (least_at c.args.self.now urgency (urgency * 2) 0 false c.least-plain.result less (omega arith) c.least-plain.ensures)
    (subst (λ n. scheduler.IsLeast (stands_in c.args.self.now urgency true) n c.least-shared.result) from_is
    (least_at c.args.self.now urgency (urgency * 2 + 1) c.from.result true c.least-shared.result less refl c.least-shared.ensures))
    (c.lesser-next.ensures ∙ lesser_there c.within.result c.within-2.result ∙ ap (λ o. scheduler.lesser_of o c.within-2.result) c.within.ensures ∙ ap (scheduler.lesser_of (within c.of-round.result c.least-plain.result)) c.within-2.ensures
    ∙ ap (λ r. scheduler.lesser_of (within r c.least-plain.result) (within r c.least-shared.result)) round_is) (search rules)

pub returns : goal.returns
returns c =
    let few : c.in-Some.first < 16 = search rules in
    let urgency = c.in-Some.first / 2 in
    let less : urgency < 8 = omega (arith, few) in
    let round_is : c.of-round.result ≡ round_at c.args.rounds.now.rounds urgency = c.of-round.ensures in
    let from_is : c.from.result ≡ (round_at c.args.rounds.now.rounds urgency).from = c.from.ensures ∙ ap (λ r. r.from) round_is in
    next_in_another (stands_in c.args.self.now) c.args.rounds.now.rounds urgency c.least-plain.result c.least-shared.result c.least.result c.lesser-next.result c.lesser.result
    (first_urgency c.args.self.now c.in-Some.first few c.in-Some.ensures) (least_at c.args.self.now urgency (urgency * 2) 0 false c.least-plain.result less (omega arith) c.least-plain.ensures)
    (subst (λ n. scheduler.IsLeast (stands_in c.args.self.now urgency true) n c.least-shared.result) from_is
    (least_at c.args.self.now urgency (urgency * 2 + 1) c.from.result true c.least-shared.result less refl c.least-shared.ensures))
    (least_at c.args.self.now urgency (urgency * 2 + 1) 0 true c.least.result less refl c.least.ensures)
    (c.lesser-next.ensures ∙ lesser_there c.within.result c.within-2.result ∙ ap (λ o. scheduler.lesser_of o c.within-2.result) c.within.ensures ∙ ap (scheduler.lesser_of (within c.of-round.result c.least-plain.result)) c.within-2.ensures
    ∙ ap (λ r. scheduler.lesser_of (within r c.least-plain.result) (within r c.least-shared.result)) round_is) (search rules) (c.lesser.ensures ∙ lesser_there c.least-plain.result c.least.result)
