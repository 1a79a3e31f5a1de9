-- What the fields of `DynamicTable` stand for.
use Rattle.std.specs.Prelude.{◌≡◌, ◌≤◌, map}
use Rattle.h3_table.specs.TableState.{TableState, evicted}
use Rattle.h3_table.specs.Index.{IsIndexed}
use Rattle.h3_table.specs.Slots.{slot_of}
use Rattle.h3_table.specs.declared.index.Index.{Index}
use Rattle.h3_table.specs.declared.entries.Match.{Match}
use Rattle.h3_table.specs.declared.entries.Match.TheVariants as what
use Rattle.h3_qpack.specs.EncoderState.{EncoderState}
use Rattle.h3_qpack.specs.declared.dynamic.DynamicTable.TheInside.{Inside}

abbrev pub encoder_state_inside : Inside → EncoderState
encoder_state_inside d =
    record { table = d.entries; most_capacity = d.most_capacity; announced = d.announced; limit = d.limit; known_received = d.blocking.known_received; blocking_counts = d.blocking.counts; tracked = d.tracking.sections; canceled = d.canceled; counts_acknowledgments = d.counts_acknowledgments; choices = d.choices; marks = d.marks }

-- The entries are indexed by this.
abbrev pub IsIndexedBy : Index → Match → TableState → Type 0
IsIndexedBy index what h = IsIndexed index (evicted h) (map (slot_of what) h.entries)

-- The sections are tracked over the entries that are there.
pub record IsTable (d : Inside) : Type 0 where
  pub from : d.tracking.evicted ≡ evicted d.entries
  pub to : d.tracking.made ≡ d.entries.inserted
  pub names : IsIndexedBy d.names what.Name d.entries
  pub fields : IsIndexedBy d.fields what.Field d.entries
  pub few : d.limit ≤ 65535
  -- the table is not larger than was announced
  pub within_announced : d.entries.capacity ≤ d.announced
