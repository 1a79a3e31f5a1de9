use Rattle.std.proofs.Common.{◌≡◌, ◌+◌, ◌++◌, ◌≤◌, length, [], arith, rules, ap, sym, subst, refl}
use Rattle.h3_connection.specs.StrictConnection.{known_streams}
use Rattle.h3_unidirectional.specs.Kinds.{IsUnfinished}
use Rattle.h3_unidirectional.proofs.Heads.{told_of_both, untold_of_both}
use Rattle.h3_unidirectional.proofs.stream.UnidirectionalStream.tell.Goals as goal

pub overflow_sub-passed : goal.overflow_sub-passed
overflow_sub-passed c =
    let before = c.self.inside.front.items in
    let first : c.chain-both.result.a.now ≡ before = rw (c.chain-both.ensures.first, c.as_slice.ensures.value) refl in
    let second : c.chain-both.result.b.now ≡ c.args.bytes = rw (c.chain-both.ensures.last, c.as_slice-2.ensures) refl in
    let fits : length before + length c.args.bytes ≤ c.chain-both.result.limit = omega (arith, c.len.ensures.bound, c.len.ensures.value, c.as_slice.ensures.len, c.as_slice.type_inv, c.chain-both.ensures.limit) in
    let here = rw (sym c.self.view_is) at c.requires.untold in
    let t = told_of_both _ _ before c.args.bytes _ _ _ _ _ first second fits c.self.invariant here c.in-Some.ensures in
    rw (c.remaining-left.ensures, c.len.ensures.value) t.0

pub returns-in-Some-clause-ok : goal.returns-in-Some-clause-ok
returns-in-Some-clause-ok c =
    let before = c.self.inside.front.items in
    let first : c.chain-both.result.a.now ≡ before = rw (c.chain-both.ensures.first, c.as_slice.ensures.value) refl in
    let second : c.chain-both.result.b.now ≡ c.args.bytes = rw (c.chain-both.ensures.last, c.as_slice-2.ensures) refl in
    let fits : length before + length c.args.bytes ≤ c.chain-both.result.limit = omega (arith, c.len.ensures.bound, c.len.ensures.value, c.as_slice.ensures.len, c.as_slice.type_inv, c.chain-both.ensures.limit) in
    let here = rw (sym c.self.view_is) at c.requires.untold in
    let t = told_of_both _ _ before c.args.bytes _ _ _ _ _ first second fits c.self.invariant here c.in-Some.ensures in
    let ok = rw (c.remaining-left.ensures, c.len.ensures.value) at c.take.ensures.ok in
    rw (sym c.self.view_is, t.1) ok

-- they do not tell it yet
pub invariant_of-self-else-is_err : goal.invariant_of-self-else-is_err
invariant_of-self-else-is_err c =
    let before = c.self.inside.front.items in
    let first : c.chain-both.result.a.now ≡ before = rw (c.chain-both.ensures.first, c.as_slice.ensures.value) refl in
    let second : c.chain-both.result.b.now ≡ c.args.bytes = rw (c.chain-both.ensures.last, c.as_slice-2.ensures) refl in
    let fits : length before + length c.args.bytes ≤ c.chain-both.result.limit = omega (arith, c.as_slice.ensures.len, c.as_slice.type_inv, ap length c.as_slice-2.ensures, c.as_slice-2.type_inv, c.chain-both.ensures.limit) in
    let here = rw (sym c.self.view_is) at c.requires.untold in
    let held : c.extend_from_slice.new.self.items ≡ before ++ c.args.bytes = search rules in
    let t = untold_of_both (known_streams c.args.own.now) _ before c.args.bytes [] _ _ _ first second fits here c.in-None.ensures in
    subst (IsUnfinished c.self.inside.kind) (sym held) t.0

-- they do not tell it yet
pub invariant_of-self-else-is_err-2 : goal.invariant_of-self-else-is_err-2
invariant_of-self-else-is_err-2 c =
    let before = c.self.inside.front.items in
    let first : c.chain-both.result.a.now ≡ before = rw (c.chain-both.ensures.first, c.as_slice.ensures.value) refl in
    let second : c.chain-both.result.b.now ≡ c.args.bytes = rw (c.chain-both.ensures.last, c.as_slice-2.ensures) refl in
    let fits : length before + length c.args.bytes ≤ c.chain-both.result.limit = omega (arith, c.as_slice.ensures.len, c.as_slice.type_inv, ap length c.as_slice-2.ensures, c.as_slice-2.type_inv, c.chain-both.ensures.limit) in
    let here = rw (sym c.self.view_is) at c.requires.untold in
    let held : c.extend_from_slice.new.self.items ≡ before ++ c.args.bytes = search rules in
    let t = untold_of_both (known_streams c.args.own.now) _ before c.args.bytes [] _ _ _ first second fits here c.in-None.ensures in
    subst (IsUnfinished c.self.inside.kind) (sym held) t.0

pub returns-else-is_err-clause-ok : goal.returns-else-is_err-clause-ok
returns-else-is_err-clause-ok c =
    let before = c.self.inside.front.items in
    let first : c.chain-both.result.a.now ≡ before = rw (c.chain-both.ensures.first, c.as_slice.ensures.value) refl in
    let second : c.chain-both.result.b.now ≡ c.args.bytes = rw (c.chain-both.ensures.last, c.as_slice-2.ensures) refl in
    let fits : length before + length c.args.bytes ≤ c.chain-both.result.limit = omega (arith, c.as_slice.ensures.len, c.as_slice.type_inv, ap length c.as_slice-2.ensures, c.as_slice-2.type_inv, c.chain-both.ensures.limit) in
    let here = rw (sym c.self.view_is) at c.requires.untold in
    let held : c.extend_from_slice.new.self.items ≡ before ++ c.args.bytes = search rules in
    let t = untold_of_both (known_streams c.args.own.now) _ before c.args.bytes [] _ _ _ first second fits here c.in-None.ensures in
    search (rules, held, t.1)
