-- Sections by their streams.
use Rattle.std.specs.Prelude.{◌≡◌, ℕ, false, List, [], ◌∷◌, ◌++◌, map, Option, is_some, IfSome, IfNone}
use Rattle.std.specs.List.{list_any}
use Rattle.std.specs.List.Sorted.{IsStrictlySortedBy}
use Rattle.std.specs.Ordering.{nat_cmp}
use Rattle.std.specs.BTreeMap.{is_at}
use Rattle.std.specs.Map.{keys_of, lookup}
use Rattle.h3_table.specs.Tracking.{is_of, newest_named, without_oldest_of, without_newest_of}
use Rattle.h3_table.specs.declared.tracking.NamedEntries.{NamedEntries}
use Rattle.h3_table.specs.declared.tracking.TrackedSection.{TrackedSection}

-- the sections of a stream, by what each names
abbrev pub sections_on : ℕ → List NamedEntries → List TrackedSection
sections_on stream entries = map (λ n. record { stream = stream; oldest = n.oldest; newest = n.newest }) entries

-- the sections of all streams
abbrev pub sections_of : List (ℕ × List NamedEntries) → List TrackedSection
sections_of [] = []
sections_of (one ∷ rest) = sections_on one.0 one.1 ++ sections_of rest

-- A map of streams was changed at one of them, which has these now.
pub record IsChanged (stream : ℕ) (before after : List (ℕ × List NamedEntries)) (now : Option (List NamedEntries)) : Type 0 where
  pub ordered : IsStrictlySortedBy nat_cmp (keys_of after)
  pub own : lookup (is_at (nat_cmp stream)) after ≡ now
  pub others : (other : ℕ) → is_at (nat_cmp stream) other ≡ false → lookup (is_at (nat_cmp other)) after ≡ lookup (is_at (nat_cmp other)) before

-- One section was taken away, whose oldest entry this is.
pub record IsWithoutOne (oldest : ℕ) (before after : List TrackedSection) : Type 0 where
  pub front : List TrackedSection
  pub back : List TrackedSection
  pub taken : TrackedSection
  pub names : taken.oldest ≡ oldest
  pub was : before ≡ front ++ taken ∷ back
  pub is : after ≡ front ++ back

-- The oldest section of the stream was taken away, and names these; none was where there is none.
pub record IsOldestTaken (stream : ℕ) (before after : List TrackedSection) (named : Option NamedEntries) : Type 0 where
  pub found : is_some named ≡ list_any (is_of stream) before
  pub rest : after ≡ without_oldest_of stream before
  pub newest : IfSome named (λ n. n.newest ≡ newest_named stream before)
  pub one : IfSome named (λ n. IsWithoutOne n.oldest before after)
  pub none : IfNone named (after ≡ before)

-- The same of the newest.
pub record IsNewestTaken (stream : ℕ) (before after : List TrackedSection) (named : Option NamedEntries) : Type 0 where
  pub found : is_some named ≡ list_any (is_of stream) before
  pub rest : after ≡ without_newest_of stream before
  pub one : IfSome named (λ n. IsWithoutOne n.oldest before after)
  pub none : IfNone named (after ≡ before)
