-- The stream is lent by the map.
use Rattle.std.proofs.Common.{◌≡◌, Some, None, true, false, is_some, refl, sym, ◌∙◌, ap, subst}
use Rattle.std.specs.Prelude.{IsSome}
use Rattle.h3_requests.proofs.under_way.others.Others.get_mut.Goals as goal

pub returns-in-Some : goal.returns-in-Some
returns-in-Some c = (
  (
    refl,
    λ w there.
        let wrote = c.get_mut.follows.holds w in
        let updates = wrote.3 (sym (ap is_some c.in-Some.ensures.value)) in
        (wrote.0, updates.1, updates.2),
    refl,
  ),
  record {
    writes_back = tt;
    value = ap Some c.get_mut-in-Some.ensures.value ∙ c.in-Some.ensures.value;
  },
)

pub returns-in-None : goal.returns-in-None
returns-in-None c = (
  (
    refl,
    λ w some. absurd (let wrong : false ≡ true = subst (λ o. IsSome o) (sym c.in-None.ensures.value) some in cc),
    ap (λ m. record { streams = m }) c.get_mut.follows.holds-at-none,
  ),
  record { writes_back = tt; value = c.in-None.ensures.value },
)
