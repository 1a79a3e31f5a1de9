use Rattle.std.proofs.Common.{◌<◌, ◌≤◌, ℕ, ap, subst}
use Rattle.h3_field.specs.BorrowedFields.{Borrowed}
use Rattle.h3_c.specs.Given.{fields_cut}
use Rattle.h3_c.proofs.Cuts.{next, short, whole, too_many}
use Rattle.h3_c.proofs.fields.cut_fields.Goals as goal

pub returns-then-rest_len-name-clause-err : goal.returns-then-rest_len-name-clause-err
returns-then-rest_len-name-clause-err c =
    let less = rw c.rest_len.ensures at c.if-rest_len-name.true in
    short c.args.sizes.now c.args.flags.now c.loop-at.at c.loop-at.fields.fields c.loop-at.fields.rest (fields_cut c.args.sizes.now c.args.flags.now c.args.bytes.now) c.loop-at-test.true less c.loop-at.invariant

pub loop-at-preserved : goal.loop-at-preserved
loop-at-preserved c =
    let fits = rw c.rest_len.ensures at c.if-rest_len-name.false in
    let pushed = c.in-Ok-push.ensures.ok in
    next c.args.sizes.now c.args.flags.now c.loop-at.at c.flag_at.result c.loop-at.fields.fields _ c.loop-at.fields.rest _ (fields_cut c.args.sizes.now c.args.flags.now c.args.bytes.now) c.loop-at-test.true fits
    c.flag_at.ensures (ap (λ (b : Borrowed). b.fields) pushed) (ap (λ (b : Borrowed). b.rest) pushed) c.loop-at.invariant

pub returns-then-rest_len-gt0-clause-err : goal.returns-then-rest_len-gt0-clause-err
returns-then-rest_len-gt0-clause-err c =
    let some = subst (λ (n : ℕ). 0 < n) c.rest_len-2.ensures c.if-rest_len-gt0.true in
    too_many c.args.sizes.now c.args.flags.now c.loop-at.at c.loop-at.fields.fields c.loop-at.fields.rest (fields_cut c.args.sizes.now c.args.flags.now c.args.bytes.now) c.loop-at-test.false some c.loop-at.invariant

pub returns-clause-ok : goal.returns-clause-ok
returns-clause-ok c =
    let none = subst (λ (n : ℕ). n ≤ 0) c.rest_len-2.ensures c.if-rest_len-gt0.false in
    whole c.args.sizes.now c.args.flags.now c.loop-at.at c.loop-at.fields.fields c.loop-at.fields.rest (fields_cut c.args.sizes.now c.args.flags.now c.args.bytes.now) c.loop-at-test.false none c.loop-at.invariant
