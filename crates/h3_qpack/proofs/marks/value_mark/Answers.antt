use Rattle.std.proofs.Common.{arith, ◌∙◌, ap, sym, ◌≡◌, ◌<◌, ◌+◌, ◌*◌, ◌%◌, ◌^◌, ℕ, fold, take, drop, ◌-◌, ◌≤◌, length, ◌++◌, slice_index_or}
use Rattle.std.proofs.lemmas.List.{take_all, drop_all, drop_more, take-append-drop, length-drop}
use Rattle.std.proofs.lemmas.List.Sums.{fold-append}
use Rattle.h3_qpack.proofs.marks.value_mark.Goals as goal

abbrev behind : ℕ → ℕ → ℕ
behind mark byte = (31 * mark + byte) % 2 ^ 32

pub fours-init : goal.fours-init
fours-init c =
    let value = c.args.value.now in
    let start = c.saturating_sub.result in
    let long = length-drop start value in
    let within : length (drop start value) ≤ length value - start = omega arith in
    let below : length value % 4294967296 < 4294967296 = omega arith in (
      ap (fold behind (length value % 4294967296)) (take_all (length value - start) (drop start value) within)
          ∙ ap (λ from. fold behind (length value % 4294967296) (drop from value)) c.saturating_sub.ensures,
      below,
    )

pub behind_four-mark-requires : goal.behind_four-mark-requires
behind_four-mark-requires c = c.fours.invariant.1

pub fours-smaller : goal.fours-smaller
fours-smaller c = let sum = c.in-Some.ensures.cases.2 in omega arith

pub fours-preserved : goal.fours-preserved
fours-preserved c =
    let rest = c.fours.rest.now in
    let last = c.in-Some.behind.now in
    let joined : c.in-Some.four.now ++ last ≡ rest = ap (λ first. first ++ last) c.in-Some.ensures.cases.0 ∙ ap (λ more. take 4 rest ++ more) c.in-Some.ensures.cases.1 ∙ take-append-drop 4 rest in (
      ap (λ mark. fold behind mark last) c.behind_four-mark.ensures.mark ∙ sym (fold-append behind c.fours.mark c.in-Some.four.now last)
          ∙ ap (fold behind c.fours.mark) joined ∙ c.fours.invariant.0,
      c.behind_four-mark.ensures.below,
    )

pub bytes-init : goal.bytes-init
bytes-init c = c.fours.invariant

pub overflow_mul-mark : goal.overflow_mul-mark
overflow_mul-mark c = let below = c.bytes.invariant.1 in omega arith

pub overflow_add-mark : goal.overflow_add-mark
overflow_add-mark c = let below = c.bytes.invariant.1 in omega arith

pub bytes-preserved : goal.bytes-preserved
bytes-preserved c =
    let rest = c.fours.rest.now in
    let byte = slice_index_or rest c.bytes.byte-index 0 in
    let below : (31 * c.bytes.mark + byte) % 4294967296 < 4294967296 = omega arith in
    (sym (ap (fold behind c.bytes.mark) (drop_more rest c.bytes.byte-index 0 c.bytes-test.true)) ∙ c.bytes.invariant.0, below)

pub overflow_cast-result : goal.overflow_cast-result
overflow_cast-result c = let below = c.bytes.invariant.1 in omega arith

pub returns : goal.returns
returns c =
    let rest = c.fours.rest.now in
    let over : length rest ≤ c.bytes.byte-index = omega arith in
    sym (ap (fold behind c.bytes.mark) (drop_all c.bytes.byte-index rest over)) ∙ c.bytes.invariant.0
