-- What an item of the tree stands for.
use Rattle.og_typed.specs.Pieces.{Piece}
use Rattle.og_typed.specs.Plain.{noted, statement}
use Rattle.og_typed.specs.declared.statement.Item.{Item}
use denote.Ref.{Bor}

-- a statement with the assertion before it
abbrev pub piece_of : Bor Item → Piece
piece_of item = record { before = noted item.now.before; stmt = statement item.now.stmt; at = item.now.at }
