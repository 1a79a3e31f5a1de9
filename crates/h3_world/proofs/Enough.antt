-- An exact pull hands out a section only where its insertions came.
use Rattle.std.proofs.Common.{◌≡◌, ℕ, ◌≤◌, Bool, true, false, refl, arith, nat_lt, if◌then◌else◌, Option, Some, None}
use Rattle.std.proofs.lemmas.Grind.{common_steps}
use Rattle.h3_connection.specs.declared.event.Pull.{Pull}
use Rattle.h3_connection.specs.declared.event.Pull.TheVariants as pull
use Rattle.h3_world.specs.Flow.{Flow, Part, Section}
use Rattle.h3_world.specs.Flow.Part.{Interim, Head, Body, Trailer, End}
use Rattle.h3_world.specs.Pauses.{section_pause, pause_before}

-- How many insertions the next part needs. An exact pull hands out a section only where they came.
abbrev pub EnoughCame : ℕ → Option Part → Type 0
EnoughCame insertions (Some (Interim s)) = s.count ≤ insertions
EnoughCame insertions (Some (Head s)) = s.count ≤ insertions
EnoughCame insertions (Some (Trailer s)) = s.count ≤ insertions
EnoughCame insertions _ = Unit {0}

section_enough : (f : Flow) (came : ℕ) (s : Section) → section_pause f came s ≡ None → s.count ≤ came
section_enough f came s e = by_tests (nat_lt f.delivered s.own_length) (nat_lt came s.count) refl e
  where
    at_most : (a b : ℕ) → nat_lt a b ≡ false → b ≤ a
    at_most a b h = grind (arith, common_steps, h)

    by_tests : (a b : Bool) → nat_lt came s.count ≡ b → ◌≡◌ {A = Option Pull} (if a then Some pull.Pending else (if b then Some (pull.Waiting s.count) else None)) None → s.count ≤ came
    by_tests true b h n = cc
    by_tests false true h n = cc
    by_tests false false h n = at_most came s.count h

pub enough_came : (f : Flow) (came : ℕ) (o : Option Part) → pause_before f came o ≡ None → EnoughCame came o
enough_came f came None e = tt
enough_came f came (Some (Interim s)) e = section_enough f came s e
enough_came f came (Some (Head s)) e = section_enough f came s e
enough_came f came (Some (Trailer s)) e = section_enough f came s e
enough_came f came (Some (Body bytes own)) e = tt
enough_came f came (Some End) e = tt
