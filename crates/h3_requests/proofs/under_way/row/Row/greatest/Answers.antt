-- Each place is looked at in turn.
use Rattle.std.proofs.Common.{arith, rules, ◌≡◌, ◌<◌, ◌+◌, ◌/◌, ◌%◌, ◌^◌, ℕ, true, length, refl, sym, subst, ap, ◌∙◌, slice_get}
use Rattle.std.specs.Prelude.{◌⊎◌, Some}
use Rattle.std.proofs.lemmas.Option.{slice_get_read}
use Rattle.h3_requests.specs.Done.{is_sought}
use Rattle.h3_requests.specs.Greatest.{greater_of}
use Rattle.h3_requests.specs.Row.{held_at}
use Rattle.h3_requests.proofs.Seeking.{Found, all_looked, in_the_row, next_in_row, passes_not, passes_too, some_sought}
use Rattle.h3_requests.proofs.under_way.row.Row.greatest.Goals.{then-seeks, else-seeks}
use Rattle.h3_requests.proofs.under_way.row.Row.greatest.Goals as goal

pub places-preserved : goal.places-preserved
places-preserved c =
    let at : slice_get c.args.self.now.places.items c.places.place-index ≡ Some c.place-item.result =
    ap (λ l. slice_get l c.places.place-index) (sym c.deref-place-items.ensures.value)
    ∙ slice_get_read c.deref-place-items.result.now (length c.deref-place-items.result.now) c.places.place-index c.place-item.result refl c.places-test.true c.place-item.is in
    let few : c.place-item.result.id < 2 ^ 64 = search rules in
    let more : (q : ℕ) → q / 4 % 128 < c.places.place-index + 1 → is_sought c.args.undone (held_at c.args.self.now q) ≡ true → (q ≡ c.place-item.result.id) ⊎ (q / 4 % 128 < c.places.place-index) =
    λ q less is. next_in_row c.args.self.now.places.items c.places.place-index c.place-item.result q at less (some_sought c.args.undone (held_at c.args.self.now q) is) in
    elim c.if-seeks.branch [
      | then-seeks w ↦
          let is : c.if-seeks.found ≡ greater_of c.places.found (Some c.place-item.result.id) = cc in
          subst (Found (λ q. is_sought c.args.undone (held_at c.args.self.now q)) (λ q. q / 4 % 128 < c.places.place-index + 1)) (sym is)
          (passes_too (λ q. is_sought c.args.undone (held_at c.args.self.now q)) (λ q. q / 4 % 128 < c.places.place-index) (λ q. q / 4 % 128 < c.places.place-index + 1) c.places.found c.place-item.result.id c.places.invariant
          (sym c.seeks.ensures ∙ w.if-seeks.true) few more)
      | else-seeks w ↦
          let is : c.if-seeks.found ≡ c.places.found = cc in
          subst (Found (λ q. is_sought c.args.undone (held_at c.args.self.now q)) (λ q. q / 4 % 128 < c.places.place-index + 1)) (sym is)
          (passes_not (λ q. is_sought c.args.undone (held_at c.args.self.now q)) (λ q. q / 4 % 128 < c.places.place-index) (λ q. q / 4 % 128 < c.places.place-index + 1) c.places.found c.place-item.result.id c.places.invariant
          (sym c.seeks.ensures ∙ w.if-seeks.false) more)
    ]

pub returns-clause-value : goal.returns-clause-value
returns-clause-value c =
    all_looked (λ q. is_sought c.args.undone (held_at c.args.self.now q)) (λ q. q / 4 % 128 < c.places.place-index) c.places.found
    (λ q is.
    let within : q / 4 % 128 < length c.args.self.now.places.items = in_the_row c.args.self.now.places.items q (some_sought c.args.undone (held_at c.args.self.now q) is) in
    let same : length c.deref-place-items.result.now ≡ length c.args.self.now.places.items = ap (λ l. length l) c.deref-place-items.ensures.value in
    omega (arith, within, same, c.places-test.false))
    c.places.invariant
