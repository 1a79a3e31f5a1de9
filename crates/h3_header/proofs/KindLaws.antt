-- A name with no colon ahead is that of a regular field.
use Rattle.std.proofs.Common.{◌≡◌, ◌≢◌, ℕ, ◌==◌, Bool, true, false, ◌&&◌, List, [], ◌∷◌, slice_index, bytes_eq, codes, refl, ap, sym, ◌∙◌, ne_eqb}
use Rattle.std.specs.Prelude.{if◌then◌else◌}
use Rattle.h3_header.specs.Reads.{kind_of}
use Rattle.h3_header.specs.declared.headers.kind.FieldKind.TheVariants.{Method, Scheme, Authority, Path, Status, Protocol, Regular}

by_colon : (b p q r s t u : Bool) → b ≡ false
    → Regular ≡ (if b && p then Method else (if b && q then Scheme else (if b && r then Authority else (if b && s then Path else (if b && t then Status else (if b && u then Protocol else Regular))))))
by_colon false p q r s t u none = refl
by_colon true p q r s t u none = absurd (cc)

pub regular_by_first : (name : List ℕ) (first : ℕ) → first ≡ slice_index name 0 → first ≢ 58 → Regular ≡ kind_of name
unfolding kind_of
regular_by_first [] first is none = refl
regular_by_first (b ∷ rest) first is none =
    by_colon (b == 58) (bytes_eq rest (codes "method")) (bytes_eq rest (codes "scheme")) (bytes_eq rest (codes "authority")) (bytes_eq rest (codes "path"))
    (bytes_eq rest (codes "status")) (bytes_eq rest (codes "protocol")) (ap (λ n. n == 58) (sym is) ∙ ne_eqb first 58 none)
