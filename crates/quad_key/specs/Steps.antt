-- What the parts of the keys' code promise each other. Definitions only.
use Rattle.std.specs.Prelude.{ℕ, ◌+◌, ◌*◌, ◌^◌, List, [], ◌∷◌, ◌++◌, Float}
use Rattle.quad_key.specs.declared.Lanes.{Lanes}
use Rattle.quad_key.specs.Key.{lane_of}

-- the lanes of v at the three steps
abbrev pub lanes_of : Float → Lanes
lanes_of v = record { less = lane_of v 0; own = lane_of v 1; more = lane_of v 2 }

-- the keys with the lower three lanes of low and each of the lanes d
abbrev pub three_keys : ℕ → Lanes → List ℕ
three_keys low d = (low + d.less * 2 ^ 48) ∷ (low + d.own * 2 ^ 48) ∷ (low + d.more * 2 ^ 48) ∷ []

-- the keys with the lower two lanes of low and each of the lanes c and d
abbrev pub nine_keys : ℕ → Lanes → Lanes → List ℕ
nine_keys low c d = three_keys (low + c.less * 2 ^ 32) d ++ three_keys (low + c.own * 2 ^ 32) d ++ three_keys (low + c.more * 2 ^ 32) d

-- the keys with the lane 0 of low and each of the lanes b, c and d
abbrev pub keys27 : ℕ → Lanes → Lanes → Lanes → List ℕ
keys27 low b c d = nine_keys (low + b.less * 2 ^ 16) c d ++ nine_keys (low + b.own * 2 ^ 16) c d ++ nine_keys (low + b.more * 2 ^ 16) c d
