-- Which hashes have near lanes, and which key is among the neighbour keys. Definitions only.
use Rattle.std.specs.Prelude.{◌≡◌, ℕ, ◌<◌, Float}
use Rattle.quad_key.specs.declared.Hash.{Hash}
use Rattle.quad_key.specs.Key.{lane_of, key_of, neighbour_key}

-- the own lane of v is one of the three lanes of w
abbrev pub NearLane : Float → Float → Type 0
NearLane v w = (d : ℕ) × (d < 3) × (lane_of v 1 ≡ lane_of w d)

-- each of the four lanes of g is one of the three of h
pub record NearLanes (g h : Hash) : Type 0 where
  pub near0 : NearLane g.h0 h.h0
  pub near1 : NearLane g.h1 h.h1
  pub near2 : NearLane g.h2 h.h2
  pub near3 : NearLane g.h3 h.h3

-- one of the 81 neighbour keys of h is the key of g
pub record Among (g h : Hash) : Type 0 where
  pub number : ℕ
  pub known : number < 81
  pub same : neighbour_key h number ≡ key_of g
