-- The setup of a script asks for no strict messages, and limits nothing that is unfinished.
use Rattle.std.proofs.Common.{◌≡◌, ℕ, Bool, true, false, List, [], ◌∷◌, codes, bytes_eq, Option, Some, None, Result, Ok, Err, ap, if◌then◌else◌}
use Rattle.std.specs.Result.{result_ok}
use Rattle.h3_proto.specs.Config.{announced, is_limit, no_choices}
use Rattle.h3_proto.specs.declared.config.Choices.{Choices}
use Rattle.h3_proto.specs.declared.stream.Side.{Side}
use Rattle.h3_proto.specs.declared.stream.Side.TheVariants.{Client, Server}
use Rattle.h3_connection.specs.Announcing.{announced_by}
use Rattle.h3_connection.specs.AnnouncingLaws.{announced_as}
use Rattle.h3_connection.specs.declared.setup.Announced.{Announced}
use Rattle.h3_connection.specs.declared.setup.Limits.{Limits}
use Rattle.h3_connection.specs.declared.setup.NewError.{NewError}
use Rattle.h3_connection.specs.declared.setup.NewError.TheVariants.{Settings}
use Rattle.h3_proto.specs.declared.frame.SettingsError.TheVariants.{InvalidSettingValue}
use Rattle.h3_world.specs.Setup.{both, announced_at, takes_settings, IsPlain, Setup}
use Rattle.h3_world.specs.declared.event.Event.{Event}
use Rattle.h3_script.specs.Words.{words_of, number_of}
use Rattle.h3_script.specs.ScriptLine.{config_of, setup_by, setup_of}
use Rattle.h3_script.specs.Script.{lines_of, said, SaysSoFar, IsScript}
use Rattle.h3_world.specs.Small.{ArePlain}
use Rattle.h3_script.proofs.ScriptSizes.{script_taken}

-- What a configuration announces that chooses nothing is plain.
side_by : (section : ℕ) (limits : Limits) (a : Announced) → announced_by (announced (config_of section) 0) limits no_choices ≡ Ok a → IsPlain a
side_by section limits a h =
    let made = announced_as (announced (config_of section) 0) limits no_choices a h in
    let chosen : a.choices ≡ no_choices = ap (λ (x : Announced). x.choices) made.announced in
    (ap (λ (c : Choices). c.strict_messages) chosen, ap (λ (c : Choices). is_limit c.unfinished_limit) chosen)

-- Each side was announced.
record BothMade (x y : Result Announced NewError) (setup : Setup) : Type 0 where
  client : x ≡ Ok setup.client
  server : y ≡ Ok setup.server

by_settings : (made setup : Setup) (b : Bool) → result_ok (if◌then◌else◌ {A = Result Setup NewError} b (Ok made) (Err (Settings (InvalidSettingValue 0x2b603742 1)))) ≡ Some setup
    → BothMade (Ok made.client) (Ok made.server) setup
by_settings made setup true h =
    let same : made ≡ setup = cc in
    record { client = ap (λ (s : Setup). Ok s.client) same; server = ap (λ (s : Setup). Ok s.server) same }
by_settings made setup false h = cc

both_made : (x y : Result Announced NewError) (setup : Setup) → result_ok (both x y) ≡ Some setup → BothMade x y setup
both_made (Ok client) (Ok server) setup h =
    let made : Setup = record { client = client; server = server } in
    by_settings made setup (takes_settings made) h
both_made (Err e) y setup h = absurd (cc)
both_made (Ok client) (Err e) setup h = absurd (cc)

-- both sides
record AreSides (setup : Setup) : Type 0 where
  client : IsPlain setup.client
  server : IsPlain setup.server

setup_sides : (a b c d e f : Option ℕ) (setup : Setup) → setup_by a b c d e f ≡ Some setup → AreSides setup
setup_sides None b c d e f setup h = absurd (cc)
setup_sides (Some a) None c d e f setup h = absurd (cc)
setup_sides (Some a) (Some b) None d e f setup h = absurd (cc)
setup_sides (Some a) (Some b) (Some c) None e f setup h = absurd (cc)
setup_sides (Some a) (Some b) (Some c) (Some d) None f setup h = absurd (cc)
setup_sides (Some a) (Some b) (Some c) (Some d) (Some e) None setup h = absurd (cc)
setup_sides (Some a) (Some b) (Some c) (Some d) (Some e) (Some f) setup h =
    let client : Limits = record { table = b; blocked = c } in
    let server : Limits = record { table = e; blocked = f } in
    let sides = both_made (announced_by (announced (config_of a) 0) client no_choices) (announced_by (announced (config_of d) 0) server no_choices) setup h in
    record { client = side_by a client setup.client sides.client; server = side_by d server setup.server sides.server }

if_setup : (b : Bool) (found : Option Setup) (setup : Setup) → (if b then found else None) ≡ Some setup → found ≡ Some setup
if_setup true found setup h = h
if_setup false found setup h = cc

words_sides : (words : List (List ℕ)) (setup : Setup) → setup_of words ≡ Some setup → AreSides setup
words_sides [] setup h = absurd (cc)
words_sides (w ∷ []) setup h = absurd (cc)
words_sides (w ∷ a ∷ []) setup h = absurd (cc)
words_sides (w ∷ a ∷ b ∷ []) setup h = absurd (cc)
words_sides (w ∷ a ∷ b ∷ c ∷ []) setup h = absurd (cc)
words_sides (w ∷ a ∷ b ∷ c ∷ d ∷ []) setup h = absurd (cc)
words_sides (w ∷ a ∷ b ∷ c ∷ d ∷ e ∷ []) setup h = absurd (cc)
words_sides (w ∷ a ∷ b ∷ c ∷ d ∷ e ∷ f ∷ []) setup h =
    setup_sides (number_of a) (number_of b) (number_of c) (number_of d) (number_of e) (number_of f) setup
    (if_setup (bytes_eq w (codes "config")) (setup_by (number_of a) (number_of b) (number_of c) (number_of d) (number_of e) (number_of f)) setup h)
words_sides (w ∷ a ∷ b ∷ c ∷ d ∷ e ∷ f ∷ g ∷ words) setup h = absurd (cc)

so_far_sides : (lines : List (List ℕ)) (setup : Setup) (events : List Event) → SaysSoFar lines (Some setup) events → AreSides setup
so_far_sides [] setup events h = absurd h
so_far_sides (first ∷ rest) setup events h = words_sides (words_of first) setup h.0

sides : (most : ℕ) (text : List ℕ) (setup : Setup) (events : List Event) → IsScript most text setup events → AreSides setup
sides most text setup events h = so_far_sides (said (lines_of text)) setup events h.says

plain_at : (setup : Setup) (side : Side) → AreSides setup → IsPlain (announced_at setup side)
plain_at setup Client made = made.client
plain_at setup Server made = made.server

pub script_plain : (most : ℕ) (text : List ℕ) (setup : Setup) (events : List Event) → IsScript most text setup events → ArePlain setup events
script_plain most text setup events h = record { sides = λ side. plain_at setup side (sides most text setup events h); taken = script_taken most text setup events h }
