-- A pause that is exact is for bytes that are missing: a reader that waits for insertions misses bytes of the encoder stream.
use Rattle.std.proofs.Common.{◌≡◌, ◌⊎◌, inl, inr, ℕ, zero, suc, ◌-◌, ◌<◌, ◌≤◌, Bool, true, false, List, [], ◌∷◌, length, take, refl, sym, subst, ◌∙◌, arith, nat_lt, ◌==◌, if◌then◌else◌, Option, Some, None}
use Rattle.std.specs.List.{count_by}
use Rattle.std.specs.Prelude.{MatchOption, is_none}
use Rattle.std.proofs.lemmas.Grind.{common_steps}
use Rattle.std.proofs.lemmas.List.Sums.{sum_by-cons}
use Rattle.h3_field.specs.Instruction.{EncoderInstruction, encoder_bytes}
use Rattle.h3_qpack.specs.WholeInstructions.{whole_in, insertions_in, is_insertion}
use Rattle.h3_world.specs.Flow.{Flow, Part, Section}
use Rattle.h3_world.specs.Flow.Part.{Interim, Head, Body, Trailer, End}
use Rattle.h3_world.specs.World.{World, Party, party}
use Rattle.h3_world.specs.Came.{insertions_came}
use Rattle.h3_world.specs.Sound.{IsSentSection, IsSentPart, IsSoundFlow, IsSoundWorld}
use Rattle.h3_world.specs.Order.{next_part}
use Rattle.h3_world.specs.Pauses.{IsMissing, PauseAllowed, pause_before, pause_of}
use Rattle.h3_world.specs.Pulling.{PausesExactly, settled}
use Rattle.h3_world.specs.Streams.{flow}
use Rattle.h3_world.proofs.ComesOut.{each_ends}
use Rattle.h3_world.proofs.SoundFlows.{flow_sound}
use Rattle.h3_proto.specs.declared.stream.Side.{Side}
use Rattle.h3_connection.specs.OwnIds.{other}
use Rattle.h3_world.specs.Setup.{Setup}
use Rattle.h3_connection.specs.declared.event.Pull.{Pull}
use Rattle.h3_connection.specs.declared.event.Pull.TheVariants as pull

-- more bytes have no fewer whole units
pub whole_more : {X : Type 0} (bytes_of : X → List ℕ) (few many : ℕ) (xs : List X) → few ≤ many → whole_in bytes_of few xs ≤ whole_in bytes_of many xs
whole_more bytes_of few many [] h = omega arith
whole_more bytes_of few many (x ∷ xs) h =
    grind (arith, common_steps, h, whole_more bytes_of (few - length (bytes_of x)) (many - length (bytes_of x)) xs (omega (arith, h)))

front_more : {X : Type 0} (test : X → Bool) (few many : ℕ) (xs : List X) → few ≤ many → count_by test (take few xs) ≤ count_by test (take many xs)
front_more test few many [] h = grind (arith, common_steps)
front_more test zero many (x ∷ xs) h = grind (arith, common_steps)
front_more test (suc few) zero (x ∷ xs) h = absurd (omega (arith, h))
front_more test (suc few) (suc many) (x ∷ xs) h =
    omega (arith, front_more test few many xs (omega (arith, h)), sum_by-cons (λ i. if test i then 1 else 0) x (take few xs), sum_by-cons (λ i. if test i then 1 else 0) x (take many xs))

-- more bytes of the encoder stream have no fewer insertions
pub insertions_more : (few many : ℕ) (instructions : List EncoderInstruction) → few ≤ many → insertions_in few instructions ≤ insertions_in many instructions
insertions_more few many instructions h =
    front_more is_insertion (whole_in encoder_bytes few instructions) (whole_in encoder_bytes many instructions) instructions (whole_more encoder_bytes few many instructions h)

below_or : (a b : ℕ) → (a < b) ⊎ (b ≤ a)
below_or a b = grind (arith, common_steps)

-- where a section waits for insertions, bytes of the encoder stream are missing
pub waits_for_bytes : (p : Party) (s : Section) → IsSentSection p s → insertions_came p < s.count → p.own.encoder_taken < s.encoder_length
waits_for_bytes p s h waits = decide (below_or p.own.encoder_taken s.encoder_length)
  where
    decide : (p.own.encoder_taken < s.encoder_length) ⊎ (s.encoder_length ≤ p.own.encoder_taken) → p.own.encoder_taken < s.encoder_length
    decide (inl below) = below
    decide (inr came) = absurd (omega (arith, waits, h.inserted, insertions_more (s.encoder_length - 1) (p.own.encoder_taken - 1) p.own.instructions (omega (arith, came))))

section_allowed : (p : Party) (f : Flow) (s : Section) (a b : Bool) (given : Pull) → IsSentSection p s → nat_lt f.delivered s.own_length ≡ a → nat_lt (insertions_came p) s.count ≡ b
    → ◌≡◌ {A = Option Pull} (if a then Some pull.Pending else (if b then Some (pull.Waiting s.count) else None)) (Some given) → IsMissing f p.own.encoder_taken s
section_allowed p f s true b given h own came e = inl (grind (arith, common_steps, own))
section_allowed p f s false true given h own came e = inr (waits_for_bytes p s h (grind (arith, common_steps, came)))
section_allowed p f s false false given h own came e = cc

-- the next part is as it was sent
abbrev pub IsSentNext : Party → Option Part → Type 0
IsSentNext p None = Unit {0}
IsSentNext p (Some part) = (end : ℕ) × IsSentPart p end part

empty : (b : Bool) (n : ℕ) (given : Pull) → (n == 0) ≡ b → ◌≡◌ {A = Option Pull} (if b then Some pull.Pending else None) (Some given) → n ≡ 0
empty true n given h e = grind (arith, common_steps, h)
empty false n given h e = cc

not_ended : (b : Bool) (given : Pull) → ◌≡◌ {A = Option Pull} (if b then None else Some pull.Pending) (Some given) → b ≡ false
not_ended true given e = cc
not_ended false given e = refl

exact_is_allowed : (p : Party) (f : Flow) (part : Option Part) (given : Pull) → IsSentNext p part → pause_before f (insertions_came p) part ≡ Some given → PauseAllowed f p.own.encoder_taken part
exact_is_allowed p f None given h e = tt
exact_is_allowed p f (Some (Interim s)) given h e = section_allowed p f s _ _ given h.1.0 refl refl e
exact_is_allowed p f (Some (Head s)) given h e = section_allowed p f s _ _ given h.1.0 refl refl e
exact_is_allowed p f (Some (Trailer s)) given h e = section_allowed p f s _ _ given h.1.0 refl refl e
exact_is_allowed p f (Some (Body bytes own)) given h e = empty _ _ given refl e
exact_is_allowed p f (Some End) given h e = not_ended f.ended given e

-- the next part of a sound flow is as it was sent
pub sent_next : (p : Party) (f : Flow) → IsSoundFlow p f → IsSentNext p (next_part f)
sent_next p f sound = by_part (next_part f) refl
  where
    by_part : (o : Option Part) → next_part f ≡ o → IsSentNext p o
    by_part None e = tt
    by_part (Some part) e =
        let ends = each_ends p None 0 f.sent f.parts_out part sound.sent e in
        (ends.end, ends.sent)

-- **A pause that is exact is for bytes that are missing.**
pub pause_allowed : (setup : Setup) (w : World) (side : Side) (id : ℕ) (p : Pull) → IsSoundWorld setup w → settled w side id ≡ None → PausesExactly w side id p → is_none (pause_of p) ≡ false
    → PauseAllowed (flow w (other side) id) (party w (other side)).own.encoder_taken (next_part (flow w (other side) id))
pause_allowed setup w side id p h unsettled exact pauses = by_pause (pause_of p) refl pauses
  where
    f : Flow
    f = flow w (other side) id

    sender : Party
    sender = party w (other side)

    told : pause_of p ≡ pause_before f (insertions_came sender) (next_part f)
    told = subst (λ o. MatchOption o (pause_of p ≡ pause_before f (insertions_came sender) (next_part f)) (λ answer. Unit {0})) unsettled exact

    by_pause : (o : Option Pull) → pause_of p ≡ o → is_none o ≡ false → PauseAllowed f sender.own.encoder_taken (next_part f)
    by_pause None is some = cc
    by_pause (Some q) is some = exact_is_allowed sender f (next_part f) q (sent_next sender f (flow_sound w (other side) id h.exchanges)) (sym told ∙ is)
