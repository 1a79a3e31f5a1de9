use Rattle.std.proofs.Common.{sym, ap, subst, ◌∙◌, ◌≡◌, [], Some, None, arith}
use Rattle.std.proofs.lemmas.Grind.{common_steps}
use Rattle.h3_connection.specs.Endpoint.{EndpointHistory}
use Rattle.h3_connection.specs.Keeping.{read_all, unkept}
use Rattle.h3_connection.specs.Lists.{pull_of}
use Rattle.h3_connection.specs.State.{StandsFor}
use Rattle.h3_session.specs.Reading.{Finds}
use Rattle.h3_session.proofs.Listing.{lists_alone, lists_behind}
use Rattle.h3_session.proofs.PullingKept.{pull_alone, pull_behind, pull_faulty}
use Rattle.h3_session.proofs.endpoint.Endpoint.pull_into.Goals as goal

pub returns-then-is_empty-clause-pulls : goal.returns-then-is_empty-clause-pulls
returns-then-is_empty-clause-pulls c =
    let open_still : c.args.self.now.closed ≡ None = sym (ap (λ v. v.closed) c.self.view_is) ∙ c.in_default.is in
    let kept : c.args.self.now.kept ≡ c.self.inside.kept.items = sym (ap (λ v. v.kept) c.self.view_is) in
    let none : c.self.inside.kept.items ≡ [] = grind (arith, common_steps, c.if-is_empty.ensures) in
    pull_alone c.args.self.now c.pull_next.new.self c.args.id (pull_of c.pull_next.new.out) open_still (kept ∙ none) c.pull_next.ensures.item

pub returns-in-Ok-None-clause-pulls : goal.returns-in-Ok-None-clause-pulls
returns-in-Ok-None-clause-pulls c =
    let open_still : c.args.self.now.closed ≡ None = sym (ap (λ v. v.closed) c.self.view_is) ∙ c.in_default.is in
    let kept : c.args.self.now.kept ≡ c.self.inside.kept.items = sym (ap (λ v. v.kept) c.self.view_is) in
    let some : c.self.inside.kept.items ≡ [] → ⊥ = λ none. grind (arith, common_steps, c.if-is_empty.ensures) in
    pull_behind c.args.self.now c.read_kept.new.self c.pull_next-in-Ok-None.new.self c.args.id (pull_of c.pull_next-in-Ok-None.new.out) open_still (λ none. some (sym kept ∙ none)) c.in-Ok-None.ensures.none_kept
    c.if-is_settled.ensures (rw c.in-Ok-None.field-0-is at c.in-Ok-None.ensures.reads) c.pull_next-in-Ok-None.ensures.item

pub returns-in-Ok-Some-clause-pulls : goal.returns-in-Ok-Some-clause-pulls
returns-in-Ok-Some-clause-pulls c =
    let open_still : c.args.self.now.closed ≡ None = sym (ap (λ v. v.closed) c.self.view_is) ∙ c.in_default.is in
    let kept : c.args.self.now.kept ≡ c.self.inside.kept.items = sym (ap (λ v. v.kept) c.self.view_is) in
    let some : c.self.inside.kept.items ≡ [] → ⊥ = λ none. grind (arith, common_steps, c.if-is_empty.ensures) in
    let reads = rw c.in-Ok-Some.field-0-is at c.in-Ok-Some.ensures.reads in
    rw c.fail-in-Ok-Some.ensures (pull_faulty c.args.self.now _ c.args.id c.in-Ok-Some.code open_still (λ none. some (sym kept ∙ none))
    c.if-is_settled.ensures (subst (λ m. (e : EndpointHistory) → StandsFor c.args.self.now e → Finds (Some c.in-Ok-Some.code) m (read_all e.kept (unkept e))) (sym c.self-in-Ok-Some.view_is) reads))

pub returns-then-is_empty-clause-list : goal.returns-then-is_empty-clause-list
returns-then-is_empty-clause-list c =
    let kept : c.args.self.now.kept ≡ c.self.inside.kept.items = sym (ap (λ v. v.kept) c.self.view_is) in
    let none : c.self.inside.kept.items ≡ [] = grind (arith, common_steps, c.if-is_empty.ensures) in
    lists_alone c.args.self.now c.args.id _ (kept ∙ none) c.pull_next.ensures.list

pub returns-in-Ok-None-clause-list : goal.returns-in-Ok-None-clause-list
returns-in-Ok-None-clause-list c =
    let kept : c.args.self.now.kept ≡ c.self.inside.kept.items = sym (ap (λ v. v.kept) c.self.view_is) in
    let some : c.self.inside.kept.items ≡ [] → ⊥ = λ none. grind (arith, common_steps, c.if-is_empty.ensures) in
    lists_behind c.args.self.now c.read_kept.new.self c.args.id _ (λ none. some (sym kept ∙ none)) c.if-is_settled.ensures (rw c.in-Ok-None.field-0-is at c.in-Ok-None.ensures.reads) c.pull_next-in-Ok-None.ensures.list
