-- What is made of a configuration and further settings, and of settings that are remembered.
use Rattle.std.proofs.Common.{◌≡◌, ◌≤◌, ◌<◌, ℕ, List, [], Option, Some, None, Result, Ok, Err, refl, sym, subst}
use Rattle.h3_proto.specs.Further.{further_from}
use Rattle.h3_proto.specs.Settings.{settings_of}
use Rattle.h3_proto.specs.declared.frame.SettingsError.{SettingsError}
use Rattle.h3_proto.specs.declared.stream.Side.{Side}
use Rattle.h3_proto.specs.declared.stream.Side.TheVariants.{Client, Server}
use Rattle.h3_connection.specs.Remembering.{remembering}
use Rattle.h3_connection.specs.SendingContracts.{CreatesFurther, CreatesWith}
use Rattle.h3_connection.specs.State.{EndpointState}
use Rattle.h3_connection.specs.declared.setup.Announced.{Announced}
use Rattle.h3_connection.specs.declared.setup.NewError.{NewError}
use Rattle.h3_connection.specs.declared.setup.NewError.TheVariants.{OutOfMemory}
use Rattle.h3_connection.specs.declared.lists.ListPull.TheVariants.{Pending}
use Rattle.h3_session.specs.Events.{nothing_seen}
use Rattle.h3_c.specs.Configs.{announced_of, sessions_of, side_of}
use Rattle.h3_c.specs.Further.{MakesGivenWith, MakesPaired, MakesWith, UnmakesWith, pairs_given}
use Rattle.h3_c.specs.Numbers.{argument, memory, new_told, ok}
use Rattle.h3_c.specs.Remembered.{MakesGivenResumed, MakesOf, MakesResumed, UnmakesResumed}
use Rattle.h3_c.specs.Seen.{Seen}
use Rattle.h3_c.specs.declared.config.GivenConfig.{GivenConfig}
use Rattle.h3_c.specs.declared.numbers.Told.{Told}
use Rattle.h3_c.proofs.Making.{owns}

-- want of memory comes last
last_of_further : (side : Side) (a : Announced) (further : Result (List (ℕ × ℕ)) SettingsError) (s : EndpointState) → CreatesFurther side a further (Ok s) → CreatesFurther side a further (Err OutOfMemory)
last_of_further side a (Ok pairs) s h = refl
last_of_further side a (Err e) s h = absurd h

comes_last : (side : Side) (made : Result Announced NewError) (pairs : List (ℕ × ℕ)) (s : EndpointState) → CreatesWith side made pairs (Ok s) → CreatesWith side made pairs (Err OutOfMemory)
comes_last side (Ok a) pairs s h = last_of_further side a (further_from a.settings [] pairs) s h
comes_last side (Err e) pairs s h = absurd h

pub lacks_with : (given : GivenConfig) (pairs : List (ℕ × ℕ)) (s : EndpointState) → CreatesWith (side_of given) (announced_of given) pairs (Ok s) → UnmakesWith given pairs memory
lacks_with given pairs s h = record { answer = OutOfMemory; is = refl; refused = comes_last (side_of given) (announced_of given) pairs s h }

pub refused_with : (given : GivenConfig) (pairs : List (ℕ × ℕ)) (e : NewError) (n : Told) → n ≡ new_told e → CreatesWith (side_of given) (announced_of given) pairs (Err e) → UnmakesWith given pairs n
refused_with given pairs e n is h = record { answer = e; is = is; refused = h }

pub lacks_resumed : (given : GivenConfig) (pairs remembered : List (ℕ × ℕ)) (s : EndpointState) → CreatesWith Client (remembering (announced_of given) remembered) pairs (Ok s) → UnmakesResumed given pairs remembered memory
lacks_resumed given pairs remembered s h = record { answer = OutOfMemory; is = refl; refused = comes_last Client (remembering (announced_of given) remembered) pairs s h }

pub refused_resumed : (given : GivenConfig) (pairs remembered : List (ℕ × ℕ)) (e : NewError) (n : Told) → n ≡ new_told e → CreatesWith Client (remembering (announced_of given) remembered) pairs (Err e) → UnmakesResumed given pairs remembered n
refused_resumed given pairs remembered e n is h = record { answer = e; is = is; refused = h }

pub made_with : (given : GivenConfig) (pairs : List (ℕ × ℕ)) (v : Seen) (before after : Option Seen) (n : Told) → n ≡ ok → after ≡ Some v → v.sessions ≡ sessions_of (side_of given) given → v.last ≡ Pending → v.events ≡ nothing_seen
    → CreatesWith (side_of given) (announced_of given) pairs (Ok v.endpoint) → MakesWith given pairs n before after
made_with given pairs v before after n is there sessions last events h = record { answer = Ok v.endpoint; is = is; done = h; made = owns (sessions_of (side_of given) given) v before after there sessions last events }

pub unmade_with : (given : GivenConfig) (pairs : List (ℕ × ℕ)) (n : Told) (before after : Option Seen) → UnmakesWith given pairs n → after ≡ before → MakesWith given pairs n before after
unmade_with given pairs n before after u same = record { answer = Err u.answer; is = u.is; done = u.refused; made = same }

pub made_resumed : (given : GivenConfig) (pairs remembered : List (ℕ × ℕ)) (v : Seen) (before after : Option Seen) (n : Told) → n ≡ ok → after ≡ Some v → v.sessions ≡ sessions_of Client given → v.last ≡ Pending → v.events ≡ nothing_seen
    → CreatesWith Client (remembering (announced_of given) remembered) pairs (Ok v.endpoint) → MakesResumed given pairs remembered n before after
made_resumed given pairs remembered v before after n is there sessions last events h = record { answer = Ok v.endpoint; is = is; done = h; made = owns (sessions_of Client given) v before after there sessions last events }

pub unmade_resumed : (given : GivenConfig) (pairs remembered : List (ℕ × ℕ)) (n : Told) (before after : Option Seen) → UnmakesResumed given pairs remembered n → after ≡ before → MakesResumed given pairs remembered n before after
unmade_resumed given pairs remembered n before after u same = record { answer = Err u.answer; is = u.is; done = u.refused; made = same }

-- what a caller gave is a configuration and pairs, or not
pub pairs_some : (given : GivenConfig) (numbers : List ℕ) (pairs : List (ℕ × ℕ)) (n : Told) (before after : Option Seen) → pairs_given numbers ≡ Some pairs
    → (0x210842108421083 ≤ given.grease → (n ≡ argument) × (after ≡ before)) → (given.grease < 0x210842108421083 → MakesWith given pairs n before after)
    → MakesPaired (pairs_given numbers) given n before after
pairs_some given numbers pairs n before after is far near = subst (λ p. MakesPaired p given n before after) (sym is) (far, near)

pub pairs_none : (given : GivenConfig) (numbers : List ℕ) (n : Told) (before after : Option Seen) → pairs_given numbers ≡ None → n ≡ argument → after ≡ before
    → MakesPaired (pairs_given numbers) given n before after
pairs_none given numbers n before after is refused same = subst (λ p. MakesPaired p given n before after) (sym is) (refused, same)

pub given_some_with : (config : Option GivenConfig) (given : GivenConfig) (numbers : List ℕ) (n : Told) (before after : Option Seen) → Some given ≡ config
    → MakesPaired (pairs_given numbers) given n before after → MakesGivenWith config numbers n before after
given_some_with config given numbers n before after is h = subst (λ c. MakesGivenWith c numbers n before after) is h

pub given_none_with : (config : Option GivenConfig) (numbers : List ℕ) (n : Told) (before after : Option Seen) → None ≡ config → n ≡ argument → after ≡ before
    → MakesGivenWith config numbers n before after
given_none_with config numbers n before after is refused same = subst (λ c. MakesGivenWith c numbers n before after) is (refused, same)

-- a client remembers settings, and what is none of any is refused
pub of_server : (given : GivenConfig) (bytes numbers : List ℕ) (n : Told) (before after : Option Seen) → side_of given ≡ Server → n ≡ argument → after ≡ before
    → MakesOf (side_of given) (settings_of bytes) (pairs_given numbers) given n before after
of_server given bytes numbers n before after is refused same = subst (λ side. MakesOf side (settings_of bytes) (pairs_given numbers) given n before after) (sym is) (refused, same)

malformed_for : (side : Side) (e : SettingsError) (pairs : Option (List (ℕ × ℕ))) (given : GivenConfig) (n : Told) (before after : Option Seen) → n ≡ argument → after ≡ before
    → MakesOf side (Err e) pairs given n before after
malformed_for Client e pairs given n before after refused same = (refused, same)
malformed_for Server e pairs given n before after refused same = (refused, same)

pub of_malformed : (given : GivenConfig) (bytes numbers : List ℕ) (e : SettingsError) (n : Told) (before after : Option Seen) → Err e ≡ settings_of bytes → n ≡ argument → after ≡ before
    → MakesOf (side_of given) (settings_of bytes) (pairs_given numbers) given n before after
of_malformed given bytes numbers e n before after is refused same =
    subst (λ r. MakesOf (side_of given) r (pairs_given numbers) given n before after) is (malformed_for (side_of given) e (pairs_given numbers) given n before after refused same)

unpaired_for : (side : Side) (r : Result (List (ℕ × ℕ)) SettingsError) (given : GivenConfig) (n : Told) (before after : Option Seen) → n ≡ argument → after ≡ before
    → MakesOf side r None given n before after
unpaired_for Client (Ok remembered) given n before after refused same = (refused, same)
unpaired_for Client (Err e) given n before after refused same = (refused, same)
unpaired_for Server r given n before after refused same = (refused, same)

pub of_no_pairs : (given : GivenConfig) (bytes numbers : List ℕ) (n : Told) (before after : Option Seen) → pairs_given numbers ≡ None → n ≡ argument → after ≡ before
    → MakesOf (side_of given) (settings_of bytes) (pairs_given numbers) given n before after
of_no_pairs given bytes numbers n before after is refused same =
    subst (λ p. MakesOf (side_of given) (settings_of bytes) p given n before after) (sym is) (unpaired_for (side_of given) (settings_of bytes) given n before after refused same)

pub of_client : (given : GivenConfig) (bytes numbers : List ℕ) (remembered pairs : List (ℕ × ℕ)) (n : Told) (before after : Option Seen) → side_of given ≡ Client
    → Ok remembered ≡ settings_of bytes → pairs_given numbers ≡ Some pairs → (0x210842108421083 ≤ given.grease → (n ≡ argument) × (after ≡ before))
    → (given.grease < 0x210842108421083 → MakesResumed given pairs remembered n before after)
    → MakesOf (side_of given) (settings_of bytes) (pairs_given numbers) given n before after
of_client given bytes numbers remembered pairs n before after client is are far near =
    subst (λ side. MakesOf side (settings_of bytes) (pairs_given numbers) given n before after) (sym client)
    (subst (λ r. MakesOf Client r (pairs_given numbers) given n before after) is (subst (λ p. MakesOf Client (Ok remembered) p given n before after) (sym are) (far, near)))

pub given_some_resumed : (config : Option GivenConfig) (given : GivenConfig) (numbers bytes : List ℕ) (n : Told) (before after : Option Seen) → Some given ≡ config
    → MakesOf (side_of given) (settings_of bytes) (pairs_given numbers) given n before after → MakesGivenResumed config numbers bytes n before after
given_some_resumed config given numbers bytes n before after is h = subst (λ c. MakesGivenResumed c numbers bytes n before after) is h

pub given_none_resumed : (config : Option GivenConfig) (numbers bytes : List ℕ) (n : Told) (before after : Option Seen) → None ≡ config → n ≡ argument → after ≡ before
    → MakesGivenResumed config numbers bytes n before after
given_none_resumed config numbers bytes n before after is refused same = subst (λ c. MakesGivenResumed c numbers bytes n before after) is (refused, same)
