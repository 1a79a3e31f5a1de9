-- The sections of one stream among those of all.
use Rattle.std.specs.Prelude.{◌≡◌, ◌≢◌, ℕ, filter, List, [], ◌∷◌, ◌++◌, Option, IfSome, IfNone}
use Rattle.h3_table.specs.Tracking.{is_of}
use Rattle.h3_table.specs.declared.tracking.NamedEntries.{NamedEntries}
use Rattle.h3_table.specs.declared.tracking.TrackedSection.{TrackedSection}

abbrev pub of_stream : ℕ → List TrackedSection → List TrackedSection
of_stream stream ts = filter (is_of stream) ts

-- Each stream has the same sections.
abbrev pub HaveSame : List TrackedSection → List TrackedSection → Type 0
HaveSame before after = (stream : ℕ) → of_stream stream after ≡ of_stream stream before

-- A section stands behind the others of its stream.
abbrev pub HasOneMore : TrackedSection → List TrackedSection → List TrackedSection → Type 0
HasOneMore t before after = (stream : ℕ) → of_stream stream after ≡ of_stream stream before ++ of_stream stream (t ∷ [])

-- The first section of the stream was taken away, and names these; none was where there is none.
pub record IsFirstTaken (stream : ℕ) (before after : List TrackedSection) (named : Option NamedEntries) : Type 0 where
  pub others : (other : ℕ) → other ≢ stream → of_stream other after ≡ of_stream other before
  pub one : IfSome named (λ n. of_stream stream before ≡ record { stream = stream; oldest = n.oldest; newest = n.newest } ∷ of_stream stream after)
  pub none : IfNone named ((of_stream stream before ≡ []) × (of_stream stream after ≡ []))

-- The same of the last.
pub record IsLastTaken (stream : ℕ) (before after : List TrackedSection) (named : Option NamedEntries) : Type 0 where
  pub others : (other : ℕ) → other ≢ stream → of_stream other after ≡ of_stream other before
  pub one : IfSome named (λ n. of_stream stream before ≡ of_stream stream after ++ record { stream = stream; oldest = n.oldest; newest = n.newest } ∷ [])
  pub none : IfNone named ((of_stream stream before ≡ []) × (of_stream stream after ≡ []))
