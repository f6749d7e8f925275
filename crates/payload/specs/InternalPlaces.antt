-- What the search for the next mesh says, for private functions.
use Rattle.payload.specs.Places.{Spot, nowhere, spot}
use Rattle.std.specs.Prelude.{Option, Some, None}
use Rattle.payload.specs.declared.mesh.places.MeshBody.{MeshBody}

abbrev pub next_says : Option MeshBody → Spot
next_says (Some m) = spot m.body m.end
next_says None = nowhere
