-- What becomes of the streams.
use Rattle.std.proofs.Common.{refl, ◌∙◌, ap, subst}
use Rattle.h3_connection.specs.State.{kept_at}
use Rattle.h3_requests.specs.Stored.{stored_at}
use Rattle.h3_requests.specs.UnderWayLending.{WritesThere}
use Rattle.h3_requests.proofs.Found.{few, found, writes}
use Rattle.h3_requests.proofs.map.StreamMap.get_mut.Goals as goal

pub returns : goal.returns
returns c = (
  (
    refl,
    λ x.
        let wrote = subst (λ n. WritesThere c.args.self.now.under_way (c.get_mut.follows.lender x) n x) c.into_inner.ensures.value (c.get_mut.follows.holds x) in
        writes c.args.self.now (record { under_way = c.get_mut.follows.lender x; over = c.args.self.now.over }) c.args.id x (few _ _ c.into_inner.ensures.value c.into_inner.ensures.bound) refl wrote,
    ap (λ s. record { under_way = s; over = c.args.self.now.over }) c.get_mut.follows.holds-at-none,
  ),
  record {
    writes_back = tt;
    value = c.get_mut.ensures.value ∙ ap (kept_at c.args.self.now.under_way) c.into_inner.ensures.value;
    found = found (stored_at c.args.self.now) c.args.id (few _ _ c.into_inner.ensures.value c.into_inner.ensures.bound);
  },
)
