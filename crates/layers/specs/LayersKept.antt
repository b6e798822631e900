-- A layer keeps the bounds of a body's meaning where its parts do.
use Rattle.std.specs.Prelude.{ℕ, zero, suc, ◌+◌, ◌<◌, ◌≤◌, max, List, [], ◌∷◌, ◌++◌, map, length, ℤ, neg_ℤ, Ok, Err, unsigned_abs}
use Rattle.std.proofs.Common.{arith, length-append}
use Rattle.std.specs.List.{AllByRecursion}
use Rattle.std.proofs.ByRecursion.{All-weaker, All-map, All-append}
use Rattle.std.proofs.lemmas.Int.{ints}
use Rattle.std.proofs.lemmas.List.{length-map}
use Rattle.plane.specs.declared.point.Point.{Point}
use Rattle.plane.specs.Plane.{size, plus, negate, perp}
use Rattle.layers.specs.Layers.{over, moved, turned, halved, quartered, quarter_turns, sums, summed, joined}
use Rattle.body.specs.Bounds.{wider, size_within, plus_within, limited_bounded}
use Rattle.body.specs.Meaning.{Verdict, Meaning, Within, BoundedBy, Bounded, limited}

-- a layer is bounded if it is for each reach that its part may have
over_bounded : (own : ℕ → Verdict) (m : Meaning) (ps : List Point) → ((r : ℕ) → BoundedBy (Ok r) m.points → BoundedBy (own r) ps) → Bounded m → BoundedBy (over own m.verdict) ps
over_bounded own m ps law b = go m.verdict b.bounds
  where
    go : (v : Verdict) → BoundedBy v m.points → BoundedBy (over own v) ps
    go (Ok reach) c = law reach c
    go (Err f) c = tt

-- t takes what is within m to what is within n
map_within : (t : Point → Point) (m n : ℕ) (ps : List Point) → ((p : Point) → Within m p → Within n (t p)) → AllByRecursion (Within m) ps → AllByRecursion (Within n) (map t ps)
map_within t m n ps law h = All-map (Within n) t ps (All-weaker (Within m) (λ p. Within n (t p)) law ps h)

some_map : (t : Point → Point) (ps : List Point) → 0 < length ps → 0 < length (map t ps)
some_map t ps h = omega (arith, length-map ps t)

pub moved_bounded : (v : Point) {m : Meaning} → Bounded m → Bounded (moved v m)
moved_bounded v {m} b = record {
  bounds = over_bounded _ m _
      (λ r c. limited_bounded 0 (r + size v) _ (map_within _ r (r + size v) m.points (λ p w. plus_within r (size v) p v w (size_within v)) c.1) (some_map _ m.points c.2))
      b;
}

turned_bounded : (t : Point → Point) → ((n : ℕ) (p : Point) → Within n p → Within n (t p)) → {m : Meaning} → Bounded m → Bounded (turned t m)
turned_bounded t law {m} b = record {
  bounds = over_bounded _ m _ (λ r c. (c.0, map_within t r r m.points (law r) c.1, some_map t m.points c.2)) b;
}

abs_neg : (a : ℤ) (n : ℕ) → unsigned_abs a ≤ n → unsigned_abs (neg_ℤ a) ≤ n
abs_neg a n h = omega (arith, ints)

pub halved_bounded : {m : Meaning} → Bounded m → Bounded (halved m)
halved_bounded b = turned_bounded negate (λ n p w. (abs_neg p.x n w.0, abs_neg p.y n w.1)) b

pub quartered_bounded : {m : Meaning} → Bounded m → Bounded (quartered m)
quartered_bounded b = turned_bounded perp (λ n p w. (abs_neg p.y n w.1, w.0)) b

turns_within : (k n : ℕ) (p : Point) → Within n p → Within n (quarter_turns k p)
turns_within zero n p w = w
turns_within (suc k) n p w = let v = turns_within k n p w in (abs_neg (quarter_turns k p).y n v.1, v.0)

pub turns_bounded : (k : ℕ) {m : Meaning} → Bounded m → Bounded (turned (quarter_turns k) m)
turns_bounded k b = turned_bounded (quarter_turns k) (turns_within k) b

-- what holds of each sum
pub all_sums : (P Q R : Point → Type 0) (ps qs : List Point) → ((p q : Point) → P p → Q q → R (plus p q)) → AllByRecursion P ps → AllByRecursion Q qs → AllByRecursion R (sums ps qs)
all_sums P Q R [] qs law h k = tt
all_sums P Q R (p ∷ ps) qs law h k =
    All-append R (map (λ q. plus p q) qs) (sums ps qs)
    (All-map R (λ q. plus p q) qs (All-weaker Q (λ q. R (plus p q)) (λ q w. law p q h.0 w) qs k))
    (all_sums P Q R ps qs law h.1 k)

some_sums : (ps qs : List Point) → 0 < length ps → 0 < length qs → 0 < length (sums ps qs)
some_sums [] qs h k = h
some_sums (p ∷ ps) qs h k = omega (arith, length-append (map (plus p) qs) (sums ps qs), length-map qs (plus p))

pub summed_bounded : {m n : Meaning} → Bounded m → Bounded n → Bounded (summed m n)
summed_bounded {m} {n} b c = record {
  bounds = over_bounded _ m _ (λ r d. over_bounded _ n _ (λ s e. sum_bounds r s d e) c) b;
}
  where
    sum_bounds : (r s : ℕ) → BoundedBy (Ok r) m.points → BoundedBy (Ok s) n.points → BoundedBy (limited 0 (r + s)) (sums m.points n.points)
    sum_bounds r s d e = limited_bounded 0 (r + s) _ (all_sums _ _ _ m.points n.points (plus_within r s) d.1 e.1) (some_sums m.points n.points d.2 e.2)

some_join : (ps qs : List Point) → 0 < length ps → 0 < length (ps ++ qs)
some_join ps qs h = omega (arith, length-append ps qs)

all_wider : (k l : ℕ) → k ≤ l → (ps : List Point) → AllByRecursion (Within k) ps → AllByRecursion (Within l) ps
all_wider k l h ps w = All-weaker (Within k) (Within l) (wider k l h) ps w

join_bounds : (r s : ℕ) (ps qs : List Point) → BoundedBy (Ok r) ps → BoundedBy (Ok s) qs → BoundedBy (Ok (max r s)) (ps ++ qs)
join_bounds r s ps qs b c = (
  omega (arith, b.0, c.0),
  All-append (Within (max r s)) ps qs (all_wider r (max r s) (omega arith) ps b.1) (all_wider s (max r s) (omega arith) qs c.1),
  some_join ps qs b.2,
)

pub joined_bounded : {m n : Meaning} → Bounded m → Bounded n → Bounded (joined m n)
joined_bounded {m} {n} b c = record {
  bounds = over_bounded _ m _ (λ r d. over_bounded _ n _ (λ s e. join_bounds r s m.points n.points d e) c) b;
}
