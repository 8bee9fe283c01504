-- Each step keeps the rule of the published copy.
use Rattle.std.proofs.Common.{◌≡◌, ◌≢◌, ℕ, List, [], ◌∷◌, set, refl, ◌∙◌, subst, ⊎_elim, arith}
use mathlib.Core.Option.{some}
use mathlib.Core.List.{IsPrefix}
use lib.ListN.{get_elem?}
use Rattle.crossbeam_utils.specs.Register.{Admits, TurnsAt, Turns, Forks, Merges}
use Rattle.atomic_table.proofs.Lists.{at_set, at_snoc}
use Rattle.hk_node.specs.declared.replica.Replica.{Replica}
use Rattle.hk_node.specs.Published.{View, no_view, IsReplay, Fits, Keeps, Sees}
use Rattle.hk_node.proofs.Prefixes.{prefix_self, prefix_trans}

fits_fresh : (x : View) → Fits x no_view
fits_fresh x = ((x.1, refl), (λ h. absurd (omega arith)))

fits_self : (x : View) → Fits x x
fits_self x = (prefix_self x.1, (λ h. refl))

fits_on : (x y v : View) → IsPrefix x.1 y.1 → x.0 ≡ y.0 → Fits x v → Fits y v
fits_on x y v up same f = (prefix_trans v.1 x.1 y.1 f.0 up, (λ h. f.1 h ∙ same))

pub admits : Admits Keeps no_view
admits x views h = (h.0, (λ seat v at. ⊎_elim (h.1 seat v) (λ (e : no_view ≡ v). subst (Fits x.prefix) e (fits_fresh x.prefix)) (at_snoc views no_view v seat at)))

pub begins : (x : Replica) → IsReplay (x) → Keeps x (no_view ∷ [])
begins x p = (p, (λ seat v at. ⊎_elim (λ (e : get_elem? [] seat ≡ some v). nothing seat v e) (λ (e : no_view ≡ v). subst (Fits x.prefix) e (fits_fresh x.prefix)) (at_snoc [] no_view v seat at)))
  where
    nothing : (seat : ℕ) (v : View) → get_elem? [] seat ≡ some v → Fits x.prefix v
    nothing seat v e = absurd (cc (e))

set_fits : (x : View) (views : List View) (seat : ℕ) (w : View) → ((j : ℕ) (u : View) → get_elem? views j ≡ some u → Fits x u) → Fits x w → (j : ℕ) (u : View) → get_elem? (set views seat w) j ≡ some u → Fits x u
set_fits x views seat w h f j u e = ⊎_elim (λ (t : (j ≡ seat) × (w ≡ u)). subst (Fits x) t.1 f) (λ (t : (j ≢ seat) × (get_elem? views j ≡ some u)). h j u t.1) (at_set views seat j w u e)

pub turns : (seat : ℕ) (v : View) (x y : Replica) → IsReplay (y) → IsPrefix x.prefix.1 y.prefix.1 → x.prefix.0 ≡ y.prefix.0 → TurnsAt Keeps seat v x y Sees
turns seat v x y p up same views h at = (
  y.prefix,
  (p, set_fits y.prefix views seat y.prefix (λ j u e. fits_on x.prefix y.prefix u up same (h.1 j u e)) (fits_self y.prefix)),
  (h.1 seat v at, refl, p),
)

pub looks : (seat : ℕ) (v : View) → Turns Keeps seat v (λ x. x) Sees
looks seat v x views h at = turns seat v x x h.0 (prefix_self x.prefix.1) refl views h at

pub forks : (seat : ℕ) (v : View) → Forks Keeps seat v v v
forks seat v x views h at = (h.0, (λ j u e. ⊎_elim (set_fits x.prefix views seat v h.1 (h.1 seat v at) j u) (λ (same : v ≡ u). subst (Fits x.prefix) same (h.1 seat v at)) (at_snoc (set views seat v) v u j e)))

-- the told view takes the place of the reader's
pub learns : (seat : ℕ) (v : View) (other : ℕ) (w : View) → Merges Keeps seat v other w w no_view
learns seat v other w x views h at apart there =
    let b : Fits x.prefix w = ⊎_elim (λ (t : (other ≡ seat) × (w ≡ w)). absurd (apart t.0)) (λ (t : (other ≢ seat) × (get_elem? views other ≡ some w)). h.1 other w t.1) (at_set views seat other w w there) in
    (h.0, set_fits x.prefix (set views seat w) other no_view (set_fits x.prefix views seat w h.1 b) (fits_fresh x.prefix))
