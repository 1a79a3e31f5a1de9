-- The stream is set among those under way, and was over or not there.
use Rattle.std.proofs.Common.{sym, subst}
use Rattle.std.specs.Prelude.{IfSome}
use Rattle.h3_connection.specs.Calls.{fresh_request}
use Rattle.h3_requests.specs.Over.{IsOver}
use Rattle.h3_requests.proofs.Found.{distinct_in, few, over_found, put_in}
use Rattle.h3_requests.proofs.map.StreamMap.open_new.Goals as goal

pub returns-in_default-clause-over : goal.returns-in_default-clause-over
returns-in_default-clause-over c =
    subst (λ o. IfSome o IsOver) (sym (over_found c.args.self.now c.into_inner-number.result c.args.id c.into_inner-number.ensures.value c.into_inner-number.ensures.bound c.requires)) c.reserve.ensures.over

pub returns-in_default-clause-distinct : goal.returns-in_default-clause-distinct
returns-in_default-clause-distinct c = distinct_in (record { under_way = c.args.self.now.under_way; over = c.reserve.new.self })

pub returns-in_default-open-clause-over : goal.returns-in_default-open-clause-over
returns-in_default-open-clause-over c =
    subst (λ o. IfSome o IsOver) (sym (over_found c.args.self.now c.into_inner-number.result c.args.id c.into_inner-number.ensures.value c.into_inner-number.ensures.bound c.requires)) c.reserve.ensures.over

pub returns-in_default-open-clause-distinct : goal.returns-in_default-open-clause-distinct
returns-in_default-open-clause-distinct c = distinct_in (record { under_way = c.open.new.self; over = c.reserve.new.self })

pub returns-clause-ok : goal.returns-clause-ok
returns-clause-ok c =
    let put = rw c.into_inner-number.ensures.value at c.in-Ok-open.ensures.ok in
    put_in c.args.self.now.under_way c.open.new.self c.args.self.now.over c.reserve.new.self c.args.id fresh_request (few _ _ c.into_inner-number.ensures.value c.into_inner-number.ensures.bound) put c.reserve.ensures.same

pub returns-clause-over : goal.returns-clause-over
returns-clause-over c =
    subst (λ o. IfSome o IsOver) (sym (over_found c.args.self.now c.into_inner-number.result c.args.id c.into_inner-number.ensures.value c.into_inner-number.ensures.bound c.requires)) c.reserve.ensures.over

pub returns-clause-distinct : goal.returns-clause-distinct
returns-clause-distinct c = distinct_in (record { under_way = c.open.new.self; over = c.reserve.new.self })
