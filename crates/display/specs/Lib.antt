-- What the crate's contracts cite, and the theorems about it, whose proofs are in proofs/: of triangles `Laws`, `Drawn`
-- and `Marked`, of shown submeshes `ShownLaws` and `ShownMarked`, of shares `TurnLaws` and `ShareMarked`, of all calls
-- `Refusals`. `Winding` is about the triangles of spheres and cubes, which are made in the crates below.
pub mod Triangles
pub mod Internal
pub mod Laws
pub mod Drawn
pub mod Refusals
pub mod Marked
pub mod Winding
pub mod ShownRules
pub mod ShownKept
pub mod InternalShown
pub mod ShownLaws
pub mod ShownMarked
pub mod Turns
pub mod InternalLevels
pub mod TurnLaws
pub mod ShareMarked
