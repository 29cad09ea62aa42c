-- Laws of the solver's state: what stays as it is while the working tables and the choice change under the same prices.
--   net-keeps weight-keeps     the network and the weights, where only the working tables change
--   level-toll                 a toll of the same size
--   formed-same                a network that is the same is formed too
--   state-change filled-change a new choice, level with the old prices, and places that leave every limit as it was
--   filled_none filled-then    nothing more is kept, and one filling after another
use mathlib.Core.Path.{◌≡◌, refl, sym, ◌∙◌}
use mathlib.Core.List.{List}
use Prim.Native.Nat.{ℕ, ◌≤◌, ◌<◌}
use native.Mathlib.Omega.{arith}
use native.Mathlib.Nat.{le_refl}
use lib.ListN.{length}
use Rattle.theory.specs.Incidence.{size}
use Rattle.theory.specs.Network.{Network}
use Rattle.theory.specs.Formed.{Formed}
use Rattle.theory.specs.Level.{Level}
use Rattle.theory.proofs.ChangeLaws.{level-limits}
use Rattle.scratch.specs.declared.Shape.{Shape}
use Rattle.scratch.specs.Map.{Keeps, weight_of, price_of, kept_of, parents, card_nodes, shop_nodes, weights, parent_of, card_of, shop_of}
use Rattle.scratch.specs.View.{net_of}
use Rattle.scratch.proofs.MapLaws.{keeps-none, keeps_then, room-keeps}
use Rattle.prices.specs.State.{Working, limit_of, State, Filled}

-- the network and the weights are tables that the solver does not change
module _ {sh : Shape} {t t' : List ℕ} (K : Keeps sh Working t t') where
  pub net-keeps : net_of sh t' ≡ net_of sh t
  net-keeps =
      let p : parent_of sh t' ≡ parent_of sh t = K.rest parents (λ h. omega arith) in
      let a : card_of sh t' ≡ card_of sh t = K.rest card_nodes (λ h. omega arith) in
      let b : shop_of sh t' ≡ shop_of sh t = K.rest shop_nodes (λ h. omega arith) in
      cc

  pub weight-keeps : weight_of sh t' ≡ weight_of sh t
  weight-keeps = K.rest weights (λ h. omega arith)

-- a fact of a network and its weights, of another that is the same
level-same :
    {d d' : Network} {limit w w' p : ℕ → ℕ} {toll : ℕ} {S : ℕ → ℕ} → d' ≡ d → w' ≡ w → Level d limit w p toll S →
    Level d' limit w' p toll S
level-same e f L = rw (e, f) L

pub level-toll :
    {d : Network} {limit w p : ℕ → ℕ} {toll toll' : ℕ} {S : ℕ → ℕ} → toll' ≡ toll → Level d limit w p toll S →
    Level d limit w p toll' S
level-toll e L = rw e L

pub formed-same : {d d' : Network} → d' ≡ d → Formed d → Formed d'
formed-same e F = rw e F

module _
    (sh : Shape) (ch sheet t ch' t' : List ℕ) (state : State sh ch sheet t) (keeps : Keeps sh Working t t')
    (long : length ch' ≡ length ch)
    (limits : (v : ℕ) → v < sh.groups → limit_of sh ch' t' v ≡ limit_of sh ch t v)
    (level : Level (net_of sh t) (limit_of sh ch t) (weight_of sh t) (price_of sh sheet) sh.toll (kept_of ch'))
  where
    pub state-change : State sh ch' sheet t'
    state-change = record {
      room = room-keeps keeps.long state.room;
      prices = state.prices;
      choices = omega (arith, state.choices);
      formed = formed-same (net-keeps keeps) state.formed;
      level =
          level-same (net-keeps keeps) (weight-keeps keeps)
          (level-limits (net_of sh t) (limit_of sh ch t) (limit_of sh ch' t') (weight_of sh t) (price_of sh sheet) sh.toll
          (kept_of ch') (λ v l. sym (limits v l)) level);
      range = state.range;
      low = λ v l. omega (arith, limits v l, state.low v l);
    }

    pub filled-change :
        size sh.rows (kept_of ch) ≤ size sh.rows (kept_of ch') → Filled sh ch sheet t ch' t'
    filled-change more = record { state = state-change; keeps = keeps; limits = limits; more = more }

pub filled_none : (sh : Shape) (ch sheet t : List ℕ) → State sh ch sheet t → Filled sh ch sheet t ch t
filled_none sh ch sheet t state = record {
  state = state;
  keeps = keeps-none;
  limits = λ v l. refl;
  more = le_refl (size sh.rows (kept_of ch));
}

pub filled-then :
    (sh : Shape) (ch sheet t ch' t' ch'' t'' : List ℕ) → Filled sh ch sheet t ch' t' → Filled sh ch' sheet t' ch'' t'' →
    Filled sh ch sheet t ch'' t''
filled-then sh ch sheet t ch' t' ch'' t'' A B = record {
  state = B.state;
  keeps = keeps_then A.keeps B.keeps;
  limits = λ v l. B.limits v l ∙ A.limits v l;
  more = omega (arith, A.more, B.more);
}
