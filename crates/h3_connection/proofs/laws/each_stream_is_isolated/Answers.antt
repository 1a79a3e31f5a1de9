use Rattle.std.proofs.Common.{refl, ap, sym, ◌∙◌}
use Rattle.h3_connection.specs.Isolation.{first_sight, fold_seen, encoders_in}
use Rattle.h3_connection.proofs.Isolated.{isolated, sight_isolated, from_new}
use Rattle.h3_connection.proofs.Brought.{goes_from_new, encoders_are_peers}
use Rattle.h3_connection.proofs.UpToFault.{front_finds_none, answered_before, left_before, up_to_fault, in_front}
use Rattle.h3_connection.proofs.laws.each_stream_is_isolated.Goals as goal

pub returns-clause-fold : goal.returns-clause-fold
returns-clause-fold c = λ encoders id e s calls b goes. isolated encoders id e.side e.announced e s calls b refl refl goes

pub returns-clause-sight : goal.returns-clause-sight
returns-clause-sight c = λ encoders id e s calls b goes. sight_isolated encoders id e.side e.announced e s calls b refl refl goes

pub returns-clause-view : goal.returns-clause-view
returns-clause-view c = λ side own id calls request p. from_new (encoders_in side calls) id side own calls request (encoders_are_peers side calls) (goes_from_new side own id calls request p)

pub returns-clause-equal_views : goal.returns-clause-equal_views
returns-clause-equal_views c = λ side own id calls more request p q same.
    from_new (encoders_in side calls) id side own calls request (encoders_are_peers side calls) (goes_from_new side own id calls request p)
    ∙ ap (fold_seen side own id (first_sight side own)) same
    ∙ sym (from_new (encoders_in side more) id side own more request (encoders_are_peers side more) (goes_from_new side own id more request q))

pub returns-clause-front : goal.returns-clause-front
returns-clause-front c = front_finds_none

pub returns-clause-up_to_fault : goal.returns-clause-up_to_fault
returns-clause-up_to_fault c = up_to_fault

pub returns-clause-in_front : goal.returns-clause-in_front
returns-clause-in_front c = in_front

pub returns-clause-answers : goal.returns-clause-answers
returns-clause-answers c = answered_before

pub returns-clause-left : goal.returns-clause-left
returns-clause-left c = left_before
