-- What the fields of `Tracking` stand for.
use Rattle.std.specs.Prelude.{◌≡◌, ◌<◌, ◌≤◌, ◌+◌, ◌^◌, length}
use Rattle.std.specs.List.{AllByRecursion}
use Rattle.h3_table.specs.Tracking.{TrackingState, reference_counts}
use Rattle.h3_table.specs.declared.tracking.Tracking.TheInside.{Inside}

abbrev pub tracking_state_inside : Inside → TrackingState
tracking_state_inside t = record { evicted = t.evicted; made = t.evicted + length t.references.items; sections = t.sections }

-- Each count is that of its entry, and each section names entries that are there.
pub record IsTracking (t : Inside) : Type 0 where
  pub counts : t.references.items ≡ reference_counts (t.evicted + 1) (length t.references.items) t.sections
  pub there : AllByRecursion (λ s. (t.evicted < s.oldest) × (s.oldest ≤ t.evicted + length t.references.items)) t.sections
  pub few : t.evicted + length t.references.items < 2 ^ 62
