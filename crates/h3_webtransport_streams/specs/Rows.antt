-- Worked examples of streams of sessions.
use Rattle.std.specs.Prelude.{◌≡◌, ℕ, ◌-◌, ◌^◌, Bool, true, false, List, [], ◌∷◌, ◌++◌, Option, Some, None, codes}
use Rattle.std.specs.List.{AllByRecursion}
use Rattle.h3_webtransport_streams.specs.Carrying.{Step, handed, sessions_told}
use Rattle.h3_webtransport_streams.specs.Carrying.Step.{Asks, Comes}
use Rattle.h3_webtransport_streams.specs.Codes.{code_of, first_code, number_of}
use Rattle.h3_webtransport_streams.specs.Receiver.{Arrived, came, untold}
use Rattle.h3_webtransport_streams.specs.Receiver.Arrived.{NoFront, NoSession}
use Rattle.h3_webtransport_streams.specs.Sender.{front_both_ways, front_one_way}
use Rattle.h3_webtransport_streams.specs.SessionStream.{unseen}

-- what a stream of a session begins with
abbrev pub IsFrontRow : ℕ × List ℕ × List ℕ → Type 0
IsFrontRow row = (front_both_ways row.0 ≡ row.1) × (front_one_way row.0 ≡ row.2)

abbrev pub fronts : List (ℕ × List ℕ × List ℕ)
fronts =
    (0, 0x40 ∷ 0x41 ∷ 0x00 ∷ [], 0x40 ∷ 0x54 ∷ 0x00 ∷ []) ∷
    (4, 0x40 ∷ 0x41 ∷ 0x04 ∷ [], 0x40 ∷ 0x54 ∷ 0x04 ∷ []) ∷
    (64, 0x40 ∷ 0x41 ∷ 0x40 ∷ 0x40 ∷ [], 0x40 ∷ 0x54 ∷ 0x40 ∷ 0x40 ∷ []) ∷
    []

-- what comes on a server's stream, and which sessions and bytes its client gets
abbrev pub IsReadRow : List Step × List ℕ × List ℕ → Type 0
IsReadRow row = (sessions_told unseen row.0 ≡ row.1) × (handed unseen row.0 ≡ row.2)

abbrev pub reads : List (List Step × List ℕ × List ℕ)
reads =
    (Comes (0x40 ∷ 0x41 ∷ 0x00 ∷ 0x61 ∷ []) ∷ Asks ∷ Asks ∷ Asks ∷ [], 0 ∷ [], 0x61 ∷ []) ∷
    (Comes (0x40 ∷ []) ∷ Asks ∷ Comes (0x41 ∷ []) ∷ Asks ∷ Comes (0x08 ∷ []) ∷ Asks ∷ Comes (0x61 ∷ []) ∷ Asks ∷ Comes (0x62 ∷ []) ∷ Asks ∷ [], 8 ∷ [], 0x61 ∷ 0x62 ∷ []) ∷
    (Comes (0x80 ∷ 0x00 ∷ 0x00 ∷ 0x41 ∷ 0x40 ∷ 0x00 ∷ 0x61 ∷ 0x62 ∷ []) ∷ Asks ∷ Asks ∷ [], 0 ∷ [], 0x61 ∷ 0x62 ∷ []) ∷
    (Comes (0x40 ∷ 0x41 ∷ []) ∷ Asks ∷ Asks ∷ [], [], []) ∷
    []

-- first bytes that are a fault of the connection
abbrev pub IsFaultRow : List ℕ × Arrived → Type 0
IsFaultRow row = came untold row.0 ≡ row.1

abbrev pub faults : List (List ℕ × Arrived)
faults =
    (0x00 ∷ 0x00 ∷ [], NoFront) ∷
    (0x01 ∷ 0x05 ∷ codes "hello", NoFront) ∷
    (0x40 ∷ 0x54 ∷ 0x00 ∷ [], NoFront) ∷
    (0x40 ∷ 0x41 ∷ 0x01 ∷ [], NoSession) ∷
    (0x40 ∷ 0x41 ∷ 0x02 ∷ [], NoSession) ∷
    []

-- numbers of an application, and their codes
abbrev pub IsCodeRow : ℕ × ℕ → Type 0
IsCodeRow row = (code_of row.0 ≡ row.1) × (number_of row.1 ≡ Some row.0)

abbrev pub numbers : List (ℕ × ℕ)
numbers =
    (0, 0x52e4a40fa8db) ∷
    (29, 0x52e4a40fa8f8) ∷
    (30, 0x52e4a40fa8fa) ∷
    (2 ^ 32 - 1, 0x52e5ac983162) ∷
    []

abbrev pub IsNoCode : ℕ → Type 0
IsNoCode code = number_of code ≡ None

abbrev pub others : List ℕ
others = 0 ∷ 0x52e4a40fa8da ∷ 0x52e4a40fa8f9 ∷ 0x52e5ac983163 ∷ 0x52e5ac983164 ∷ []

-- each of them is so
pub record RowsHold : Type 0 where
  pub fronts_are : AllByRecursion IsFrontRow fronts
  pub reads_are : AllByRecursion IsReadRow reads
  pub faults_are : AllByRecursion IsFaultRow faults
  pub numbers_are : AllByRecursion IsCodeRow numbers
  pub others_are : AllByRecursion IsNoCode others
