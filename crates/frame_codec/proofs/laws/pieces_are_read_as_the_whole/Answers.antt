use Rattle.frame_codec.proofs.Pieces.{read_pieces, read_later, read_given, on_within}
use Rattle.frame_codec.proofs.laws.pieces_are_read_as_the_whole.Goals as goal

pub returns-clause-pieces : goal.returns-clause-pieces
returns-clause-pieces c = read_pieces

pub returns-clause-later : goal.returns-clause-later
returns-clause-later c = read_later

pub returns-clause-given : goal.returns-clause-given
returns-clause-given c = read_given

pub returns-clause-within : goal.returns-clause-within
returns-clause-within c = on_within
