use Rattle.h3_field.proofs.prefix_string.bitwin.BitWindow.opposite_bit_window.Goals as goal

pub returns-clause-place : goal.returns-clause-place
returns-clause-place c = search

pub returns-clause-width : goal.returns-clause-width
returns-clause-width c = search
