-- Each of some streams passes a test of its id.
use Rattle.std.proofs.Common.{◌≡◌, ℕ, Bool, true, false, [], ◌∷◌, refl, sym, ◌∙◌, ap}
use Rattle.std.specs.Prelude.{Option, Some, ◌==◌, if◌then◌else◌, is_some}
use Rattle.std.specs.List.{list_all}
use Rattle.std.proofs.lemmas.Bool.{and_from, and_parts, eq-eqb, eqb-true}
use Rattle.h3_connection.specs.StreamSets.{Streams, stream_at}

-- one behind another is found, or that other is
still_found : {X : Type 0} (b : Bool) (x : X) (o : Option X) → is_some o ≡ true → is_some (if b then Some x else o) ≡ true
still_found true x o is = refl
still_found false x o is = is

pub all_pass : {X : Type 0} (test : ℕ → Bool) (streams : Streams X) → ((q : ℕ) → is_some (stream_at streams q) ≡ true → test q ≡ true) → list_all (λ s. test s.0) streams ≡ true
all_pass test [] all = refl
all_pass test ((id, x) ∷ streams) all =
    and_from (test id) (list_all (λ s. test s.0) streams)
    (all id (ap (λ b. is_some (if b then Some x else stream_at streams id)) (eq-eqb id id refl)))
    (all_pass test streams (λ q there. all q (still_found (id == q) x (stream_at streams q) there)))

pub each_pass : {X : Type 0} (test : ℕ → Bool) (streams : Streams X) (q : ℕ) → list_all (λ s. test s.0) streams ≡ true → is_some (stream_at streams q) ≡ true → test q ≡ true
each_pass test [] q all there = absurd (cc)
each_pass {X} test ((id, x) ∷ streams) q all there = by_test (id == q) refl there (λ more. each_pass test streams q parts.1 more)
  where
    parts : (test id ≡ true) × (list_all (λ s. test s.0) streams ≡ true)
    parts = and_parts (test id) (list_all (λ s. test s.0) streams) all

    by_test : (b : Bool) → (id == q) ≡ b → is_some (if b then Some x else stream_at streams q) ≡ true → (is_some (stream_at streams q) ≡ true → test q ≡ true) → test q ≡ true
    by_test true is there later = sym (ap test (eqb-true id q is)) ∙ parts.0
    by_test false is there later = later there
