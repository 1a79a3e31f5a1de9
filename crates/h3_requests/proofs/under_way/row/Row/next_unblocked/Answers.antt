-- Each place is looked at in turn.
use Rattle.std.proofs.Common.{arith, rules, ◌≡◌, ◌<◌, ◌+◌, ◌/◌, ◌%◌, ◌^◌, ℕ, true, length, refl, sym, subst, ap, ◌∙◌, slice_get}
use Rattle.std.specs.Prelude.{◌⊎◌, Some}
use Rattle.std.proofs.lemmas.Option.{slice_get_read}
use Rattle.h3_requests.specs.Lesser.{lesser_of}
use Rattle.h3_requests.specs.Row.{held_at}
use Rattle.h3_requests.specs.Unblocked.{is_next, is_unblocked}
use Rattle.h3_requests.proofs.Seeking.{in_the_row, next_in_row}
use Rattle.h3_requests.proofs.Unblocked.{Least, all_looked, passes_not, passes_too, some_next}
use Rattle.h3_requests.proofs.under_way.row.Row.next_unblocked.Goals.{then-is_next, else-is_next}
use Rattle.h3_requests.proofs.under_way.row.Row.next_unblocked.Goals as goal

pub places-preserved : goal.places-preserved
places-preserved c =
    let at : slice_get c.args.self.now.places.items c.places.place-index ≡ Some c.place-item.result =
    ap (λ l. slice_get l c.places.place-index) (sym c.deref-place-items.ensures.value)
    ∙ slice_get_read c.deref-place-items.result.now (length c.deref-place-items.result.now) c.places.place-index c.place-item.result refl c.places-test.true c.place-item.is in
    let few : c.place-item.result.id < 2 ^ 64 = search rules in
    let more : (q : ℕ) → q / 4 % 128 < c.places.place-index + 1 → is_next c.args.inserted c.args.from q (held_at c.args.self.now q) ≡ true → (q ≡ c.place-item.result.id) ⊎ (q / 4 % 128 < c.places.place-index) =
    λ q less is. next_in_row c.args.self.now.places.items c.places.place-index c.place-item.result q at less (some_next c.args.inserted c.args.from q (held_at c.args.self.now q) is) in
    elim c.if-is_next.branch [
      | then-is_next w ↦
          let is : c.if-is_next.found ≡ lesser_of c.places.found (Some c.place-item.result.id) = cc in
          subst (Least (λ q. is_next c.args.inserted c.args.from q (held_at c.args.self.now q)) (λ q. q / 4 % 128 < c.places.place-index + 1)) (sym is)
          (passes_too (λ q. is_next c.args.inserted c.args.from q (held_at c.args.self.now q)) (λ q. q / 4 % 128 < c.places.place-index) (λ q. q / 4 % 128 < c.places.place-index + 1) c.places.found c.place-item.result.id c.places.invariant
          (sym c.is_next.ensures ∙ w.if-is_next.true) few more)
      | else-is_next w ↦
          let is : c.if-is_next.found ≡ c.places.found = cc in
          subst (Least (λ q. is_next c.args.inserted c.args.from q (held_at c.args.self.now q)) (λ q. q / 4 % 128 < c.places.place-index + 1)) (sym is)
          (passes_not (λ q. is_next c.args.inserted c.args.from q (held_at c.args.self.now q)) (λ q. q / 4 % 128 < c.places.place-index) (λ q. q / 4 % 128 < c.places.place-index + 1) c.places.found c.place-item.result.id c.places.invariant
          (sym c.is_next.ensures ∙ w.if-is_next.false) more)
    ]

pub returns-clause-value : goal.returns-clause-value
returns-clause-value c =
    all_looked (λ q. is_unblocked c.args.inserted (held_at c.args.self.now q)) c.args.from (λ q. q / 4 % 128 < c.places.place-index) c.places.found
    (λ q is.
    let within : q / 4 % 128 < length c.args.self.now.places.items = in_the_row c.args.self.now.places.items q (some_next c.args.inserted c.args.from q (held_at c.args.self.now q) is) in
    let same : length c.deref-place-items.result.now ≡ length c.args.self.now.places.items = ap (λ l. length l) c.deref-place-items.ensures.value in
    omega (arith, within, same, c.places-test.false))
    c.places.invariant
