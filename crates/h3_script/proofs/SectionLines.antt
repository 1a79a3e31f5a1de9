-- The words of a line that sends a head or a trailer.
use Rattle.std.proofs.Common.{◌≡◌, ℕ, ◌<◌, ◌≤◌, true, false, List, [], ◌∷◌, length, drop, get_or, codes, bytes_eq, Some, None, sym, ◌∙◌, subst, arith}
use Rattle.std.specs.Borrow.{Bor}
use Rattle.h3_header.specs.Head.{Head as Fields}
use Rattle.h3_proto.specs.declared.stream.Side.{Side}
use Rattle.h3_script.specs.Pieces.{texts}
use Rattle.h3_script.specs.Words.{id_of, side_of}
use Rattle.h3_script.specs.ScriptLine.{SaysSection, IsSectionEvent}
use Rattle.h3_world.specs.declared.event.Event.{Event}
use Rattle.h3_world.specs.declared.event.Event.TheVariants as does

-- a line of a command of this kind: its side, its stream, and its words behind them
pub section_says : (name : List ℕ) (Says : List (List ℕ) → Fields → Type 0) (refs : List (Bor (List ℕ))) (d : Bor (List ℕ)) (rest : List (Bor (List ℕ))) (acting : Side) (stream : ℕ)
    (section : Fields) → 3 ≤ length refs → rest ≡ drop 3 refs → bytes_eq (get_or refs 0 d).now name ≡ true → side_of (get_or refs 1 d).now ≡ Some acting
    → id_of (get_or refs 2 d).now ≡ Some stream → Says (texts rest) section → SaysSection name Says (texts refs) acting stream section
section_says name Says [] d rest acting stream section few drops is side id says = absurd (omega (arith, few))
section_says name Says (a ∷ []) d rest acting stream section few drops is side id says = absurd (omega (arith, few))
section_says name Says (a ∷ b ∷ []) d rest acting stream section few drops is side id says = absurd (omega (arith, few))
section_says name Says (a ∷ b ∷ c ∷ refs) d rest acting stream section few drops is side id says =
    record { command_is = is; side_is = side; id_is = id; section_is = subst (λ ws. Says (texts ws) section) drops says }

-- some side, some stream and one of the two commands
record Parts (command side id : List ℕ) : Type 0 where
  acting : Side
  stream : ℕ
  side_is : side_of side ≡ Some acting
  id_is : id_of id ≡ Some stream
  named : bytes_eq command (codes "head") ≡ false → bytes_eq command (codes "trailer") ≡ false → ⊥

InParts : List (List ℕ) → Type 0
InParts (command ∷ side ∷ id ∷ words) = Parts command side id
InParts _ = ⊥

head_parts : (ws : List (List ℕ)) (Says : List (List ℕ) → Fields → Type 0) (acting : Side) (stream : ℕ) (head : Fields) → SaysSection (codes "head") Says ws acting stream head → InParts ws
unfolding InParts
head_parts [] Says acting stream head h = h
head_parts (a ∷ []) Says acting stream head h = h
head_parts (a ∷ b ∷ []) Says acting stream head h = h
head_parts (a ∷ b ∷ c ∷ ws) Says acting stream head h =
    record { acting = acting; stream = stream; side_is = h.side_is; id_is = h.id_is; named = λ not_head _. let both : true ≡ false = sym h.command_is ∙ not_head in cc }

trailer_parts : (ws : List (List ℕ)) (Says : List (List ℕ) → Fields → Type 0) (acting : Side) (stream : ℕ) (trailer : Fields) → SaysSection (codes "trailer") Says ws acting stream trailer
    → InParts ws
unfolding InParts
trailer_parts [] Says acting stream trailer h = h
trailer_parts (a ∷ []) Says acting stream trailer h = h
trailer_parts (a ∷ b ∷ []) Says acting stream trailer h = h
trailer_parts (a ∷ b ∷ c ∷ ws) Says acting stream trailer h =
    record { acting = acting; stream = stream; side_is = h.side_is; id_is = h.id_is; named = λ _ not_trailer. let both : true ≡ false = sym h.command_is ∙ not_trailer in cc }

in_parts : (ws : List (List ℕ)) → ((e : Event) × IsSectionEvent ws e) → InParts ws
in_parts ws (does.OpenRequest side, h) = absurd h
in_parts ws (does.Head side id head, h) = head_parts ws _ side id head h
in_parts ws (does.Fields side id fields, h) = absurd h
in_parts ws (does.Body side id bytes, h) = absurd h
in_parts ws (does.Trailer side id trailer, h) = trailer_parts ws _ side id trailer h
in_parts ws (does.TrailerFields side id fields, h) = absurd h
in_parts ws (does.Finish side id, h) = absurd h
in_parts ws (does.Reset side id, h) = absurd h
in_parts ws (does.Cancel side id, h) = absurd h
in_parts ws (does.Goaway side number, h) = absurd h
in_parts ws (does.Deliver side id count, h) = absurd h
in_parts ws (does.DeliverEnd side id, h) = absurd h
in_parts ws (does.DeliverReset side id, h) = absurd h
in_parts ws (does.Pull side id, h) = absurd h
in_parts ws (does.PullFields side id, h) = absurd h
in_parts ws (does.Show side, h) = absurd h

-- a line of fewer words sends none
pub section_short : (refs : List (Bor (List ℕ))) → length refs < 3 → ((e : Event) × IsSectionEvent (texts refs) e) → ⊥
unfolding InParts
section_short [] few h = in_parts [] h
section_short (a ∷ []) few h = in_parts (a.now ∷ []) h
section_short (a ∷ b ∷ []) few h = in_parts (a.now ∷ b.now ∷ []) h
section_short (a ∷ b ∷ c ∷ refs) few h = absurd (omega (arith, few))

parts_of : (refs : List (Bor (List ℕ))) (d : Bor (List ℕ)) → 3 ≤ length refs → ((e : Event) × IsSectionEvent (texts refs) e)
    → Parts (get_or refs 0 d).now (get_or refs 1 d).now (get_or refs 2 d).now
unfolding InParts
parts_of [] d few h = absurd (omega (arith, few))
parts_of (a ∷ []) d few h = absurd (omega (arith, few))
parts_of (a ∷ b ∷ []) d few h = absurd (omega (arith, few))
parts_of (a ∷ b ∷ c ∷ refs) d few h = in_parts (a.now ∷ b.now ∷ c.now ∷ texts refs) h

-- one without a side sends none
pub section_sideless : (refs : List (Bor (List ℕ))) (d : Bor (List ℕ)) → 3 ≤ length refs → None ≡ side_of (get_or refs 1 d).now → ((e : Event) × IsSectionEvent (texts refs) e) → ⊥
section_sideless refs d few none h = let parts = parts_of refs d few h in let both : None ≡ Some parts.acting = none ∙ parts.side_is in cc

-- nor one without a stream
pub section_streamless : (refs : List (Bor (List ℕ))) (d : Bor (List ℕ)) → 3 ≤ length refs → None ≡ id_of (get_or refs 2 d).now → ((e : Event) × IsSectionEvent (texts refs) e) → ⊥
section_streamless refs d few none h = let parts = parts_of refs d few h in let both : None ≡ Some parts.stream = none ∙ parts.id_is in cc

-- nor one of another command
pub section_unnamed : (refs : List (Bor (List ℕ))) (d : Bor (List ℕ)) → 3 ≤ length refs → bytes_eq (get_or refs 0 d).now (codes "head") ≡ false
    → bytes_eq (get_or refs 0 d).now (codes "trailer") ≡ false → ((e : Event) × IsSectionEvent (texts refs) e) → ⊥
section_unnamed refs d few not_head not_trailer h = (parts_of refs d few h).named not_head not_trailer
