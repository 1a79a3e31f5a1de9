-- The places are passed one by one.
use Rattle.std.proofs.Common.{arith, rules, length, ◌+◌, ◌<◌, ◌≡◌, ◌^◌, ap, sym, ◌∙◌, subst, Some}
use Rattle.h3_requests.specs.FirstWord.{IsFirstWord}
use Rattle.h3_requests.proofs.FirstNear.{all_passed, passed, read, so_far, taken}
use Rattle.h3_requests.proofs.waiting.near.NearWords.next.Goals as goal
use Rattle.h3_requests.proofs.waiting.near.NearWords.next.Goals.{then-comes_next, else-comes_next}

pub loop-index-preserved : goal.loop-index-preserved
loop-index-preserved c =
    let within : c.loop-index.index < length c.args.self.now.row.items = search rules in
    let there = read c.args.self.now.row.items c.loop-index.index c.index.result.now within c.index.ensures in
    elim c.if-comes_next.branch [
      | then-comes_next w ↦
          subst (IsFirstWord (so_far c.args.self.now.row.items (c.loop-index.index + 1)) c.args.from) (sym (w.first-is ∙ ap (λ n. Some (c.index.result.now.number, n)) w.waiting.ensures))
          (taken c.args.self.now.row.items c.args.from c.loop-index.index c.index.result.now c.loop-index.first there (sym c.comes_next.ensures ∙ w.if-comes_next.true) (subst (λ n. n < 2 ^ 64) w.waiting.ensures (search rules)) c.loop-index.invariant)
      | else-comes_next w ↦
          subst (IsFirstWord (so_far c.args.self.now.row.items (c.loop-index.index + 1)) c.args.from) (sym w.first-is)
          (passed c.args.self.now.row.items c.args.from c.loop-index.index c.index.result.now c.loop-index.first there (sym c.comes_next.ensures ∙ w.if-comes_next.false) c.loop-index.invariant)
    ]

pub returns : goal.returns
returns c = all_passed c.args.self.now.row.items c.args.from c.loop-index.index c.loop-index.first (search rules) c.loop-index.invariant
