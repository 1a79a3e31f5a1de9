-- Settings of the server that are copied out, and those that are compared.
use Rattle.std.proofs.Common.{◌≡◌, ◌<◌, ◌≤◌, ℕ, List, ◌++◌, length, drop, if◌then◌else◌, inl, inr, Option, Some, None, Ok, Err, refl, sym, ap, ◌∙◌}
use Rattle.std.specs.Prelude.{◌⊎◌}
use Rattle.std.proofs.lemmas.Bool.{lt-ltb, le-ltb}
use Rattle.h3_proto.specs.Pairs.{payload_of}
use Rattle.h3_proto.specs.Remembered.{keeps_to}
use Rattle.h3_proto.specs.Settings.{settings_of}
use Rattle.h3_proto.specs.declared.frame.SettingsError.{SettingsError}
use Rattle.h3_connection.specs.ReadingContracts.{ShowsSettings}
use Rattle.h3_c.specs.Bits.{bit}
use Rattle.h3_c.specs.Datagrams.{Put}
use Rattle.h3_c.specs.Numbers.{argument, memory, none, ok, room}
use Rattle.h3_c.specs.Remembered.{GivesSettings, LacksMemory, ShowsKept, kept_by, put_settings}
use Rattle.h3_c.specs.Seen.{Seen}

-- copied out
pub lacks_memory : (v : Seen) (buffer : List ℕ) (count : ℕ) → LacksMemory memory buffer buffer count count ⊎ GivesSettings v memory buffer buffer count count
lacks_memory v buffer count = inl (refl, refl, refl)

pub none_came : (v : Seen) (shown : Option (List (ℕ × ℕ))) (buffer : List ℕ) (count : ℕ) → ShowsSettings v.endpoint shown → None ≡ shown
    → LacksMemory none buffer buffer count count ⊎ GivesSettings v none buffer buffer count count
none_came v shown buffer count shows is = inr (λ e h. ap (λ s. put_settings s buffer count) (is ∙ shows e h))

pub lacks_room : (v : Seen) (shown : Option (List (ℕ × ℕ))) (pairs : List (ℕ × ℕ)) (buffer : List ℕ) (count : ℕ) → ShowsSettings v.endpoint shown → Some pairs ≡ shown
    → length buffer < length (payload_of pairs) → LacksMemory room buffer buffer count count ⊎ GivesSettings v room buffer buffer count count
lacks_room v shown pairs buffer count shows is small =
    let all : Put = (ok, payload_of pairs ++ drop (length (payload_of pairs)) buffer, length (payload_of pairs)) in
    inr (λ e h. sym (ap (λ b. if b then (room, buffer, count) else all) (lt-ltb (length buffer) (length (payload_of pairs)) small)) ∙ ap (λ s. put_settings s buffer count) (is ∙ shows e h))

pub copied : (v : Seen) (shown : Option (List (ℕ × ℕ))) (pairs : List (ℕ × ℕ)) (buffer after : List ℕ) (count count_after : ℕ) → ShowsSettings v.endpoint shown → Some pairs ≡ shown
    → length (payload_of pairs) ≤ length buffer → after ≡ payload_of pairs ++ drop (length (payload_of pairs)) buffer → count_after ≡ length (payload_of pairs)
    → LacksMemory ok buffer after count count_after ⊎ GivesSettings v ok buffer after count count_after
copied v shown pairs buffer after count count_after shows is fits bytes many =
    let all : Put = (ok, payload_of pairs ++ drop (length (payload_of pairs)) buffer, length (payload_of pairs)) in
    inr (λ e h.
    ap (λ l. let p : Put = (ok, l, count_after) in p) bytes ∙ ap (λ n. let p : Put = (ok, payload_of pairs ++ drop (length (payload_of pairs)) buffer, n) in p) many
    ∙ sym (ap (λ b. if b then (room, buffer, count) else all) (le-ltb (length buffer) (length (payload_of pairs)) fits)) ∙ ap (λ s. put_settings s buffer count) (is ∙ shows e h))

-- compared
pub malformed : (v : Seen) (bytes : List ℕ) (e : SettingsError) (before : ℕ) → Err e ≡ settings_of bytes → ShowsKept v bytes argument before before
malformed v bytes error before is = λ e h. ap (λ r. kept_by r e.peer.settings before) is

pub not_come : (v : Seen) (bytes : List ℕ) (remembered : List (ℕ × ℕ)) (shown : Option (List (ℕ × ℕ))) (before : ℕ) → Ok remembered ≡ settings_of bytes → ShowsSettings v.endpoint shown
    → None ≡ shown → ShowsKept v bytes none before before
not_come v bytes remembered shown before is shows came = λ e h. ap (λ s. kept_by (Ok remembered) s before) (came ∙ shows e h) ∙ ap (λ r. kept_by r e.peer.settings before) is

pub judged : (v : Seen) (bytes : List ℕ) (remembered pairs : List (ℕ × ℕ)) (shown : Option (List (ℕ × ℕ))) (before kept : ℕ) → Ok remembered ≡ settings_of bytes
    → ShowsSettings v.endpoint shown → Some pairs ≡ shown → kept ≡ bit (keeps_to remembered pairs) → ShowsKept v bytes ok before kept
judged v bytes remembered pairs shown before kept is shows came keeps =
    λ e h. ap (λ n. (ok, n)) keeps ∙ ap (λ s. kept_by (Ok remembered) s before) (came ∙ shows e h) ∙ ap (λ r. kept_by r e.peer.settings before) is
