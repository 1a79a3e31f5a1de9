-- One step of a walk, of a comparison and of a number.
use Rattle.std.proofs.Common.{◌≡◌, ◌≢◌, ℕ, ◌+◌, ◌*◌, ◌-◌, ◌^◌, ◌<◌, Bool, true, false, min, List, length, drop, get_or, bytes_eq, codes, add-one, ap, drop-cons, refl, sym, subst, arith}
use Rattle.std.specs.Prelude.{◌&&◌, ◌||◌, ◌==◌}
use Rattle.std.proofs.lemmas.Slice.Eq.{bytes_eq-Decides}
use Rattle.h3_messages.specs.Messages.{is_port, is_scheme, names_port}

-- what the rest of an authority names, by its first byte and what follows
pub names_port_rest : (text : List ℕ) (i d : ℕ) → i < length text → names_port (drop i text) ≡ (((get_or text i d == 58) && is_port (drop (i + 1) text)) || names_port (drop (i + 1) text))
names_port_rest text i d h = rw (add-one, drop-cons text i d) refl

-- two texts of two lengths
pub other_lengths : (a b : List ℕ) → (length a ≢ length b) → false ≡ bytes_eq a b
other_lengths a b other = by (bytes_eq a b) (λ e. other (ap length ((bytes_eq-Decides a b).0 e)))
  where
    by : (found : Bool) → (found ≢ true) → false ≡ found
    by true never = absurd (never refl)
    by false never = refl

-- a number that stays at a limit, one digit further
pub number_step : (n d : ℕ) → min (2 ^ 62) (min (2 ^ 64 - 1) (min (2 ^ 64 - 1) (min (2 ^ 62) n * 10) + d)) ≡ min (2 ^ 62) (n * 10 + d)
number_step n d = omega arith

-- the scheme that nearly all requests have
pub https_is_scheme : (text : List ℕ) → bytes_eq text (codes "https") ≡ true → is_scheme text ≡ true
https_is_scheme text e = subst (λ t. is_scheme t ≡ true) (sym ((bytes_eq-Decides text (codes "https")).0 e)) refl
