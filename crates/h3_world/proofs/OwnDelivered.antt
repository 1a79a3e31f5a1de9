-- Bytes of a control, encoder or decoder stream come: the sessions of both directions are kept.
use Rattle.std.proofs.Common.{◌≡◌, ℕ, ◌-◌, ◌≤◌, Bool, true, false, List, [], ◌++◌, length, take, refl, sym, ap, ◌∙◌, subst, arith, nat_le, if◌then◌else◌}
use Rattle.std.specs.Prelude.{drop}
use Rattle.std.proofs.lemmas.Grind.{common_steps}
use Rattle.std.proofs.lemmas.List.{drop-append-le, length-take-le, take-append-drop}
use Rattle.h3_field.specs.Instruction.{decoder_bytes}
use Rattle.h3_qpack.specs.WholeInstructions.{whole_in, decoder_instructions_in}
use Rattle.h3_world.proofs.Wholes.{whole_within}
use Rattle.h3_proto.specs.declared.stream.Side.{Side}
use Rattle.h3_world.specs.Setup.{Setup}
use Rattle.h3_world.specs.World.{Party}
use Rattle.h3_world.proofs.ExactPauses.{whole_more}
use Rattle.h3_world.proofs.SameSession.{knows_of, read_of, left_of}

-- a list behind a shorter front is what is between, and then what is behind the longer one
pub between_fronts : {X : Type 0} (few many : ℕ) (xs : List X) → few ≤ many → many ≤ length xs → drop few xs ≡ drop few (take many xs) ++ drop many xs
between_fronts few many xs h within =
    ap (drop few) (sym (take-append-drop many xs)) ∙ drop-append-le few (take many xs) (drop many xs) (omega (arith, h, length-take-le many xs within))

-- The party wrote the same, and more of its streams came.
pub record CameFurther (p q : Party) : Type 0 where
  pub same : q.own.replies ≡ p.own.replies
  pub control : p.own.control_taken ≤ q.own.control_taken
  pub decoder : p.own.decoder_taken ≤ q.own.decoder_taken

-- how many replies were read
abbrev pub how_many : Setup → Side → Party → ℕ
how_many setup s p = if knows_of setup s p then whole_in decoder_bytes (p.own.decoder_taken - 1) p.own.replies else 0

pub read_is_front : (setup : Setup) (s : Side) (p : Party) → read_of setup s p ≡ take (how_many setup s p) p.own.replies
read_is_front setup s p = by_test (knows_of setup s p)
  where
    by_test : (b : Bool) → (if b then decoder_instructions_in (p.own.decoder_taken - 1) p.own.replies else [])
        ≡ take (if b then whole_in decoder_bytes (p.own.decoder_taken - 1) p.own.replies else 0) p.own.replies
    by_test true = refl
    by_test false = refl

pub read_within : (setup : Setup) (s : Side) (p : Party) → how_many setup s p ≤ length p.own.replies
read_within setup s p = by_test (knows_of setup s p)
  where
    by_test : (b : Bool) → (if b then whole_in decoder_bytes (p.own.decoder_taken - 1) p.own.replies else 0) ≤ length p.own.replies
    by_test true = whole_within decoder_bytes (p.own.decoder_taken - 1) p.own.replies
    by_test false = omega arith

read_further : (setup : Setup) (s : Side) (p q : Party) → CameFurther p q → how_many setup s p ≤ how_many setup s q
read_further setup s p q f = by_test (knows_of setup s p) refl (knows_of setup s q) refl
  where
    more : whole_in decoder_bytes (p.own.decoder_taken - 1) p.own.replies ≤ whole_in decoder_bytes (q.own.decoder_taken - 1) q.own.replies
    more = subst (λ is. whole_in decoder_bytes (p.own.decoder_taken - 1) p.own.replies ≤ whole_in decoder_bytes (q.own.decoder_taken - 1) is) (sym f.same)
        (whole_more decoder_bytes (p.own.decoder_taken - 1) (q.own.decoder_taken - 1) p.own.replies (omega (arith, f.decoder)))

    clash : (n a b : ℕ) → a ≤ b → nat_le n a ≡ true → nat_le n b ≡ false → ⊥
    clash n a b h below above = grind (arith, common_steps, h, below, above)

    by_test : (b : Bool) → knows_of setup s p ≡ b → (c : Bool) → knows_of setup s q ≡ c
        → (if b then whole_in decoder_bytes (p.own.decoder_taken - 1) p.own.replies else 0) ≤ (if c then whole_in decoder_bytes (q.own.decoder_taken - 1) q.own.replies else 0)
    by_test false e c k = omega arith
    by_test true e true k = more
    by_test true e false k = absurd (clash _ p.own.control_taken q.own.control_taken f.control e k)

pub left_shrinks : (setup : Setup) (s : Side) (p q : Party) → CameFurther p q → left_of setup s p ≡ drop (length (read_of setup s p)) (read_of setup s q) ++ left_of setup s q
left_shrinks setup s p q f =
    let all = p.own.replies in
    let few = how_many setup s p in
    let many = how_many setup s q in
    let within : many ≤ length all = subst (λ is. many ≤ length is) f.same (read_within setup s q) in
    let few_is : length (read_of setup s p) ≡ few = ap length (read_is_front setup s p) ∙ length-take-le few all (read_within setup s p) in
    let many_is : length (read_of setup s q) ≡ many = ap length (read_is_front setup s q) ∙ length-take-le many q.own.replies (read_within setup s q) in
    ap (λ n. drop n all) few_is
    ∙ between_fronts few many all (read_further setup s p q f) within
    ∙ ap (λ is. drop few (take many is) ++ drop many is) (sym f.same)
    ∙ ap (λ n. drop n (take many q.own.replies) ++ drop many q.own.replies) (sym few_is)
    ∙ ap (λ is. drop (length (read_of setup s p)) is ++ drop many q.own.replies) (sym (read_is_front setup s q))
    ∙ ap (λ n. drop (length (read_of setup s p)) (read_of setup s q) ++ drop n q.own.replies) (sym many_is)
