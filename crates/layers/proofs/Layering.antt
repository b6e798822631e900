-- The answer of a sound layer, from the answers of its parts.
use Rattle.std.proofs.Common.{◌≡◌, ℕ, zero, suc, ◌<◌, ◌≤◌, max, cond, List, [], ◌∷◌, map, length, get_or, Ok, Err, Result, sym, refl, ap, subst, arith}
use Rattle.std.specs.List.{ContainsAt}
use Rattle.std.specs.Result.{IsOk, MatchResult}
use Rattle.std.proofs.ByRecursion.{all-has, has_append_left, has_append_right}
use Rattle.std.proofs.lemmas.Bool.{false≢true}
use Rattle.plane.specs.declared.fault.Fault.{Fault}
use Rattle.plane.specs.declared.point.Point.{Point}
use Rattle.plane.specs.Plane.{size, plus}
use Rattle.plane.specs.Support.{NotBeyond, Supports, beyond}
use Rattle.plane.proofs.Carrying.{Carries, map_supports, plus_carries, not_beyond_plus, has_map, append_supports}
use Rattle.layers.specs.declared.part.PartFault.{PartFault}
use Rattle.layers.specs.Layers.{over, moved, turned, sums, summed, joined}
use Rattle.layers.specs.LayersKept.{all_sums}
use Rattle.body.specs.Meaning.{Verdict, Meaning, Within, BoundedBy, Bounded, AnswersBy, Answers}

-- a body with this meaning is sound, and p is its support point in direction u
pub record Told (m : Meaning) (u p : Point) : Type 0 where
  pub reach : ℕ
  pub sound : m.verdict ≡ Ok reach
  pub supports : Supports u m.points p

-- ---- from what is answered to what is told, and back

told_by : (m : Meaning) (u p : Point) (v : Verdict) → m.verdict ≡ v → AnswersBy u v m.points (Ok p) → Told m u p
told_by m u p (Ok n) e a = record { reach = n; sound = e; supports = a }
told_by m u p (Err f) e a = absurd a

-- a part answered r, of which `map_err` made p
pub told : {m : Meaning} {u p : Point} (r : Result Point Fault) → MatchResult r (λ x. ◌≡◌ {A = Result Point PartFault} (Ok p) (Ok x)) (λ _. ⊥) → Answers m u r → Told m u p
told {m} {u} {p} (Ok x) e a = let same : x ≡ p = cc in told_by m u p m.verdict refl (subst (λ (q : Point). Answers m u (Ok q)) same a)
told (Err f) e a = absurd e

pub answers : {m : Meaning} {u p q : Point} → Told m u p → q ≡ p → Answers m u (Ok q)
answers {m} {u} {p} {q} t e = subst (λ (v : Verdict). AnswersBy u v m.points (Ok q)) (sym t.sound) (subst (Supports u m.points) (sym e) t.supports)

-- ---- what is told stays within the limit

pub near : {m : Meaning} {u p : Point} → Bounded m → Told m u p → size p ≤ 1000000
near {m} {u} {p} b t =
    let w = subst (λ (v : Verdict). BoundedBy v m.points) t.sound b.bounds in
    let k = all-has (Within t.reach) m.points p w.1 t.supports.listed in
    omega (arith, w.0, k.0, k.1)

-- ---- a layer over one part

reach_of : (v : Verdict) → IsOk v → (n : ℕ) × (v ≡ Ok n)
reach_of (Ok n) e = (n, refl)
reach_of (Err f) e = absurd (false≢true e)

pub moved_told : (v : Point) {u : Point} {m : Meaning} {p : Point} → IsOk (moved v m).verdict → Told m u p → Told (moved v m) u (plus p v)
moved_told v {u} {m} {p} e t =
    let n = reach_of (moved v m).verdict e in record {
      reach = n.0;
      sound = n.1;
      supports = map_supports (λ x. plus x v) u u m.points p (plus_carries u v) t.supports;
    }

pub turned_told : (t : Point → Point) {v w u : Point} {m : Meaning} {p : Point} → v ≡ w → Carries t w u → Told m v p → Told (turned t m) u (t p)
turned_told t {v} {w} {u} {m} {p} e law s = record {
  reach = s.reach;
  sound = ap (over (λ r. Ok r)) s.sound;
  supports = map_supports t w u m.points p law (subst (λ (x : Point). Supports x m.points p) e s.supports);
}

-- ---- a layer over two parts

has_sums : (ps qs : List Point) (p q : Point) (k : ℕ) → k < length ps → ((d : Point) → get_or ps k d ≡ p) → ContainsAt qs q → ContainsAt (sums ps qs) (plus p q)
has_sums [] qs p q k l e h = absurd (omega arith)
has_sums (x ∷ ps) qs p q zero l e h =
    has_append_left (map (λ r. plus x r) qs) (sums ps qs) (plus p q)
    (subst (λ (z : Point). ContainsAt (map (λ r. plus x r) qs) (plus z q)) (e x) (has_map (λ r. plus x r) qs q h))
has_sums (x ∷ ps) qs p q (suc k) l e h = has_append_right (map (λ r. plus x r) qs) (sums ps qs) (plus p q) (has_sums ps qs p q k (omega arith) e h)

sums_supports : (u : Point) (ps qs : List Point) (p q : Point) → Supports u ps p → Supports u qs q → Supports u (sums ps qs) (plus p q)
sums_supports u ps qs p q s t = record {
  listed = has_sums ps qs p q s.listed.0 s.listed.1 s.listed.2 t.listed;
  greatest = all_sums (NotBeyond u p) (NotBeyond u q) (NotBeyond u (plus p q)) ps qs (not_beyond_plus u p q) s.greatest t.greatest;
}

pub summed_told : {u : Point} {m n : Meaning} {p q : Point} → IsOk (summed m n).verdict → Told m u p → Told n u q → Told (summed m n) u (plus p q)
summed_told {u} {m} {n} {p} {q} e s t =
    let k = reach_of (summed m n).verdict e in record {
      reach = k.0;
      sound = k.1;
      supports = sums_supports u m.points n.points p q s.supports t.supports;
    }

pub joined_told : {u : Point} {m n : Meaning} {p q : Point} → Told m u p → Told n u q → Told (joined m n) u (cond (beyond u p q) q p)
joined_told {u} {m} {n} {p} {q} s t = record {
  reach = max s.reach t.reach;
  sound = λ i. over (λ y. over (λ z. Ok (max y z)) (t.sound i)) (s.sound i);
  supports = append_supports u m.points n.points p q s.supports t.supports;
}
