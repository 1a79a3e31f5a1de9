use Rattle.h3_world.specs.Ends.{new_ends}
use Rattle.h3_session.proofs.Headlines.{of_runs, runs_in_one_world, runs_in_world}
use Rattle.h3_session.proofs.Runs.{ran, runs_to}
use Rattle.h3_session.proofs.Sendables.{plain_are_sendable}
use Rattle.h3_proto.specs.declared.stream.Side.TheVariants.{Client, Server}
use Rattle.h3_session.proofs.run.run.Goals as goal

pub announcing-client-requires : goal.announcing-client-requires
announcing-client-requires c = rw c.into_sides-client.ensures.client ((c.into_sides-client.ensures.made.sides Client).table)

pub announcing-server-requires : goal.announcing-server-requires
announcing-server-requires c = rw c.into_sides-client.ensures.server ((c.into_sides-client.ensures.made.sides Server).table)

pub returns-clause-calls : goal.returns-clause-calls
returns-clause-calls c =
    ran (λ v. v.items) c.args.setup _ _ c.args.events.now c.announcing-client.result c.announcing-server.result c.run_between-answers.result _ _ _ _ _ c.in_ok-client-2.answers
    c.into_sides-client.ensures.client c.into_sides-client.ensures.server c.announcing-client.ensures c.announcing-server.ensures c.in_ok-client.ensures.0 c.in_ok-client.ensures.1 c.run_between-answers.ensures c.in_ok-client-2.ensures.0 c.in_ok-client-2.ensures.1

pub returns-clause-headline : goal.returns-clause-headline
returns-clause-headline c = λ whole small plain.
    let calls = ran (λ v. v.items) c.args.setup _ _ c.args.events.now c.announcing-client.result c.announcing-server.result c.run_between-answers.result _ _ _ _ _ c.in_ok-client-2.answers
    c.into_sides-client.ensures.client c.into_sides-client.ensures.server c.announcing-client.ensures c.announcing-server.ensures c.in_ok-client.ensures.0 c.in_ok-client.ensures.1 c.run_between-answers.ensures c.in_ok-client-2.ensures.0 c.in_ok-client-2.ensures.1 in
    runs_in_world c.args.setup c.args.events.now c.in_ok-client-2.answers.items _ _
    (c.two_endpoints_run_in_a_world.ensures c.args.setup c.args.events.now c.into_sides-client.ensures.made plain.sides) c.events_are_typed.ensures
    (runs_to (new_ends c.args.setup) c.args.events.now c.in_ok-client-2.answers.items _ _ calls whole) small plain

pub returns-clause-world : goal.returns-clause-world
returns-clause-world c = λ small.
    let calls = ran (λ v. v.items) c.args.setup _ _ c.args.events.now c.announcing-client.result c.announcing-server.result c.run_between-answers.result _ _ _ _ _ c.in_ok-client-2.answers
    c.into_sides-client.ensures.client c.into_sides-client.ensures.server c.announcing-client.ensures c.announcing-server.ensures c.in_ok-client.ensures.0 c.in_ok-client.ensures.1 c.run_between-answers.ensures c.in_ok-client-2.ensures.0 c.in_ok-client-2.ensures.1 in
    let setup = c.args.setup in
    let answers = c.in_ok-client-2.answers.items in
    runs_in_one_world setup c.args.events.now answers _ _
    (λ ends sendable run. record {
      until_fault = c.each_side_gets_what_the_other_sent.ensures.runs setup c.args.events.now answers ends c.into_sides-client.ensures.made sendable run;
      stands = c.each_side_gets_what_the_other_sent.ensures.stands setup c.args.events.now answers ends c.into_sides-client.ensures.made sendable run;
      plainly = λ plain. c.two_endpoints_run_with_memory.ensures setup c.args.events.now answers ends c.into_sides-client.ensures.made plain.sides (plain_are_sendable setup c.args.events.now plain.taken sendable) run;
    }) c.events_are_typed.ensures calls small

pub returns-clause-faithful : goal.returns-clause-faithful
returns-clause-faithful c = λ small.
    let calls = ran (λ v. v.items) c.args.setup _ _ c.args.events.now c.announcing-client.result c.announcing-server.result c.run_between-answers.result _ _ _ _ _ c.in_ok-client-2.answers
    c.into_sides-client.ensures.client c.into_sides-client.ensures.server c.announcing-client.ensures c.announcing-server.ensures c.in_ok-client.ensures.0 c.in_ok-client.ensures.1 c.run_between-answers.ensures c.in_ok-client-2.ensures.0 c.in_ok-client-2.ensures.1 in
    let setup = c.args.setup in
    let answers = c.in_ok-client-2.answers.items in
    of_runs setup c.args.events.now answers _ _
    (λ ends sendable run. c.each_side_gets_what_the_other_sent.ensures.faithful setup c.args.events.now answers ends c.into_sides-client.ensures.made sendable run) c.events_are_typed.ensures calls small
