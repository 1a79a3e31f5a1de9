-- Streams in a row, and those in a map behind it.
use Rattle.std.proofs.Common.{◌≡◌, ◌<◌, ℕ, ◌^◌, false, true, [], refl, sym, ◌∙◌, ap, subst, inl, inr}
use Rattle.std.specs.Prelude.{Option, Some, None, ◌≢◌, IsSome, is_some}
use Rattle.std.specs.BTreeMap.{is_at}
use Rattle.std.specs.Cmp.{unsigned_tied}
use Rattle.std.specs.Map.{set_value}
use Rattle.std.specs.Ordering.{nat_cmp}
use Rattle.std.proofs.lemmas.Bool.{cases_eq}
use Rattle.std.proofs.lemmas.Map.Steps.{set_value_same}
use Rattle.h3_blocked.specs.Sums.{TakesOut}
use Rattle.h3_connection.specs.Calls.{Sets}
use Rattle.h3_connection.specs.State.{RequestState, kept_at}
use Rattle.h3_connection.specs.StreamSets.{Streams}
use Rattle.h3_connection.specs.StreamSetLaws.{other_id}
use Rattle.h3_requests.specs.Listed.{either, streams_of}
use Rattle.h3_requests.specs.Row.{KeepsOthers}
use Rattle.h3_requests.specs.UnderWayLending.{WritesThere}
use Rattle.h3_requests.proofs.Found.{at_each, found, sets, takes_out}
use Rattle.h3_requests.proofs.Listed.{nothing, same_streams}

-- another id is at another key
not_at : (id q : ℕ) → q ≢ id → is_at (nat_cmp id) q ≡ false
not_at id q differs = unsigned_tied id q ∙ other_id q id differs

-- what is found of a stream in the row, or else in the map
abbrev pub beside : (ℕ → Option RequestState) → Streams RequestState → ℕ → Option RequestState
beside row others q = either (row q) (kept_at others q)

-- the row has all but one of the streams that it had
abbrev pub KeepsRow : (ℕ → Option RequestState) → (ℕ → Option RequestState) → ℕ → Type 0
KeepsRow old new id = (q : ℕ) → q ≢ id → new q ≡ old q

-- what is in one is not in the other
abbrev pub Apart : (ℕ → Option RequestState) → Streams RequestState → Type 0
Apart row others = (q : ℕ) → IsSome (row q) → kept_at others q ≡ None

pub has_none : (o : Option RequestState) → is_some o ≡ false → o ≡ None
has_none (Some x) is = absurd (cc)
has_none None is = refl

-- nothing stands in either
pub none_beside : (row : ℕ → Option RequestState) (others : Streams RequestState) → ((q : ℕ) → row q ≡ None) → others ≡ [] → streams_of (beside row others) ≡ []
none_beside row others none empty = nothing (beside row others) (λ q. ap (λ o. either o (kept_at others q)) (none q) ∙ ap (λ l. kept_at l q) empty)

-- A stream is put into the row, of which there is none in the map,
pub apart_put : (row new : ℕ → Option RequestState) (others : Streams RequestState) (id : ℕ) → kept_at others id ≡ None → KeepsRow row new id → Apart row others → Apart new others
apart_put row new others id none keeps apart q some = elim (cases_eq q id) [
  | inl same ↦ ap (kept_at others) same ∙ none
  | inr differs ↦ apart q (subst (λ o. IsSome o) (keeps q differs) some)
]

-- or into the map, of which there is none in the row
pub apart_behind : (row : ℕ → Option RequestState) (others new : Streams RequestState) (id : ℕ) → row id ≡ None → KeepsOthers others new id → Apart row others → Apart row new
apart_behind row others new id none keeps apart q some = elim (cases_eq q id) [
  | inl same ↦ absurd (let wrong : false ≡ true = subst (λ o. IsSome o) (ap row same ∙ none) some in cc)
  | inr differs ↦ keeps q (not_at id q differs) ∙ apart q some
]

module _ (row : ℕ → Option RequestState) (others : Streams RequestState) (streams : Streams RequestState) (view : streams_of (beside row others) ≡ streams) (id : ℕ) (few : id < 2 ^ 64) where
  found_there : kept_at streams id ≡ beside row others id
  found_there = ap (λ l. kept_at l id) (sym view) ∙ found (beside row others) id few

  -- a stream stands in the row,
  pub in_row : (o : Option RequestState) → o ≡ row id → IsSome o → kept_at streams id ≡ o
  in_row o is some = found_there ∙ ap (λ p. either p (kept_at others id)) (sym is) ∙ first o some
    where
      first : (o : Option RequestState) → IsSome o → either o (kept_at others id) ≡ o
      first (Some x) some = refl
      first None some = absurd (cc)

  -- or else in the map
  pub behind : (o : Option RequestState) → row id ≡ None → o ≡ kept_at others id → kept_at streams id ≡ o
  behind o none is = found_there ∙ ap (λ p. either p (kept_at others id)) none ∙ sym is

  -- where none is found there is none in either
  pub in_neither : kept_at streams id ≡ None → (row id ≡ None) × (kept_at others id ≡ None)
  in_neither none = by_what (row id) (kept_at others id) (sym found_there ∙ none)
    where
      by_what : (o p : Option RequestState) → either o p ≡ None → (o ≡ None) × (p ≡ None)
      by_what None p h = (refl, h)
      by_what (Some x) p h = absurd (cc)

  -- where both find the same the streams are the same
  pub stays : (new : ℕ → Option RequestState) (rest : Streams RequestState) → ((q : ℕ) → new q ≡ row q) → ((q : ℕ) → kept_at rest q ≡ kept_at others q) → streams_of (beside new rest) ≡ streams
  stays new rest same alike = same_streams (beside row others) (beside new rest) (λ q. ap (λ o. either o (kept_at rest q)) (same q) ∙ ap (either (row q)) (alike q)) ∙ view

  -- a stream is set in the row,
  pub sets_first : (new : ℕ → Option RequestState) (x : RequestState) → new id ≡ Some x → KeepsRow row new id → Sets streams (streams_of (beside new others)) id x
  sets_first new x here keeps =
      subst (λ l. Sets l (streams_of (beside new others)) id x) view
      (sets (beside row others) (beside new others) id x few (ap (λ o. either o (kept_at others id)) here) (λ q differs. ap (λ o. either o (kept_at others q)) (keeps q differs)))

  -- or in the map,
  pub sets_behind : (new : ℕ → Option RequestState) (rest : Streams RequestState) (x : RequestState) → row id ≡ None → ((q : ℕ) → new q ≡ row q) → kept_at rest id ≡ Some x → KeepsOthers others rest id
      → Sets streams (streams_of (beside new rest)) id x
  sets_behind new rest x none same here keeps =
      subst (λ l. Sets l (streams_of (beside new rest)) id x) view
      (sets (beside row others) (beside new rest) id x few (ap (λ o. either o (kept_at rest id)) (same id ∙ none) ∙ here)
      (λ q differs. ap (λ o. either o (kept_at rest q)) (same q) ∙ ap (either (row q)) (keeps q (not_at id q differs))))

  -- or taken out of both
  pub takes : (new : ℕ → Option RequestState) (rest : Streams RequestState) → new id ≡ None → KeepsRow row new id → kept_at rest id ≡ None → KeepsOthers others rest id
      → TakesOut streams (streams_of (beside new rest)) id
  takes new rest none keeps gone stay =
      subst (λ l. TakesOut l (streams_of (beside new rest)) id) view
      (takes_out (beside row others) (beside new rest) id few (ap (λ o. either o (kept_at rest id)) none ∙ gone)
      (λ q differs. ap (λ o. either o (kept_at rest q)) (keeps q differs) ∙ ap (either (row q)) (stay q (not_at id q differs))))

  -- One that was lent by the row is given back,
  pub writes_first : (new : ℕ → Option RequestState) (x : RequestState) → IsSome (row id) → new id ≡ Some x → KeepsRow row new id → WritesThere streams (streams_of (beside new others)) id x
  writes_first new x some here keeps = (
    λ there. sets_first new x here keeps,
    λ was. stays new others (at_each row new id (here ∙ sym (sym (in_row (row id) refl some) ∙ was)) keeps) (λ q. refl),
  )

  -- or one that was lent by the map
  pub writes_behind : (rest : Streams RequestState) (x : RequestState) → row id ≡ None → rest ≡ set_value (is_at (nat_cmp id)) others x → kept_at rest id ≡ Some x → KeepsOthers others rest id
      → WritesThere streams (streams_of (beside row rest)) id x
  writes_behind rest x none is here keeps = (
    λ there. sets_behind row rest x none (λ q. refl) here keeps,
    λ was.
        let there : kept_at others id ≡ Some x = sym (behind (kept_at others id) none refl) ∙ was in
        stays row rest (λ q. refl) (λ q. ap (λ l. kept_at l q) (is ∙ set_value_same (is_at (nat_cmp id)) others x there)),
  )

  -- where none was lent nothing is said
  pub writes_none : (new : Streams RequestState) (x : RequestState) → kept_at streams id ≡ None → WritesThere streams new id x
  writes_none new x none = (
    λ some. absurd (let wrong : false ≡ true = subst (λ o. IsSome o) none some in cc),
    λ was. absurd (let wrong : None ≡ Some x = sym none ∙ was in cc),
  )
