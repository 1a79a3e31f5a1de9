-- The codes of what is too long: an end that asks for a strict connection has more of them.
use Rattle.std.proofs.Common.{◌≡◌, ℕ, Bool, true, false, Option, Some, None, refl, ap, ◌∙◌}
use Rattle.std.specs.Prelude.{◌==◌, ◌&&◌, ◌||◌}
use Rattle.std.proofs.lemmas.Bool.{or_left, or_right}
use Rattle.h3_proto.specs.declared.stream.Side.{Side}
use Rattle.h3_proto.specs.declared.stream.Side.TheVariants.{Client, Server}
use Rattle.h3_connection.specs.Codes.{excessive_load, frame_unexpected}
use Rattle.h3_connection.specs.StrictConnection.{is_strict}
use Rattle.h3_connection.specs.declared.event.Fault.TheVariants as fault
use Rattle.h3_connection.specs.declared.event.Pull.{Pull}
use Rattle.h3_connection.specs.declared.event.Pull.TheVariants as pull
use Rattle.h3_world.specs.Ends.{Ends, end_at}
use Rattle.h3_strict.specs.PlainEnds.{asks_strictly}
use Rattle.h3_strict.specs.Plainly.{is_excess, is_stream_error, tells_malformed}

pub more_excess : (strict more : Bool) (found : Option ℕ) → (strict ≡ true → more ≡ true) → is_excess strict found ≡ true → is_excess more found ≡ true
more_excess strict more None gives is = absurd (cc)
more_excess strict more (Some code) gives is = by_code (code == excessive_load) strict gives is
  where
    by_code : (b s : Bool) → (s ≡ true → more ≡ true) → (b || (s && is_stream_error code)) ≡ true → (b || (more && is_stream_error code)) ≡ true
    by_code true s gives is = refl
    by_code false true gives is = ap (λ m. m && is_stream_error code) (gives refl) ∙ is
    by_code false false gives is = absurd (cc)

-- a code of an end with fewer is told by a pull
pub more_told : (strict more : Bool) (p : Pull) → (strict ≡ true → more ≡ true) → tells_malformed strict p ≡ true → tells_malformed more p ≡ true
more_told strict more (pull.Fault (fault.Stream f)) gives is = is
more_told strict more (pull.Fault (fault.Connection code)) gives is = by_code (code == frame_unexpected) is
  where
    by_code : (b : Bool) → (b || is_excess strict (Some code)) ≡ true → (b || is_excess more (Some code)) ≡ true
    by_code true is = refl
    by_code false is = more_excess strict more (Some code) gives is
more_told strict more (pull.Fault fault.Memory) gives is = absurd (cc)
more_told strict more (pull.Item i) gives is = absurd (cc)
more_told strict more pull.Pending gives is = absurd (cc)
more_told strict more (pull.Waiting n) gives is = absurd (cc)
more_told strict more pull.NoMessages gives is = absurd (cc)

-- so is one that no end has more of
pub any_told : (strict : Bool) (p : Pull) → tells_malformed false p ≡ true → tells_malformed strict p ≡ true
any_told strict p is = more_told false strict p (λ never. absurd (cc)) is

-- one of two ends
pub asks_at : (ends : Ends) (side : Side) → is_strict (end_at ends side).announced ≡ true → asks_strictly ends ≡ true
asks_at ends Client is = or_left (is_strict ends.client.announced) (is_strict ends.server.announced) is
asks_at ends Server is = or_right (is_strict ends.client.announced) (is_strict ends.server.announced) is
