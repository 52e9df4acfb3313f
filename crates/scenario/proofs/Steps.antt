-- What is counted up by a loop, one step further.
use Rattle.std.proofs.Common.{◌≡◌, ℕ, ◌+◌, List, get_or, None, Option, sym, refl, ap, ◌∙◌, add-one}
use Rattle.wiring.specs.declared.boxes.Node.{Node}
use Rattle.ports.specs.declared.port.Link.{Link}
use Rattle.forwarding.specs.State.{State}
use Rattle.forwarding.specs.Replies.{relinked}
use Rattle.scenario.specs.Plans.{above_box, rises, up_from, depth_of, spread_one, spread}
use Rattle.scenario.specs.Links.{relinked_all}

pub spread_none : (ns : List Node) (vs row : List ℕ) → spread 0 ns vs row ≡ row
unfolding spread
spread_none ns vs row = refl

pub spread-more : (n : ℕ) (ns : List Node) (vs row : List ℕ) → spread (n + 1) ns vs row ≡ spread_one ns n (get_or vs n 0) (spread n ns vs row)
unfolding spread
spread-more n ns vs row = ap (λ k. spread k ns vs row) (add-one n)

pub up_none : (ns : List Node) (ps : List ℕ) (n : ℕ) → up_from 0 ns ps n ≡ n
unfolding up_from
up_none ns ps n = refl

pub up_more : (k : ℕ) (ns : List Node) (ps : List ℕ) (n : ℕ) → up_from (k + 1) ns ps n ≡ above_box ns ps (up_from k ns ps n)
unfolding up_from
up_more k ns ps n = ap (λ j. up_from j ns ps n) (add-one k)

pub depth_none : (ns : List Node) (ps : List ℕ) (n : ℕ) → depth_of 0 ns ps n ≡ 0
unfolding depth_of
depth_none ns ps n = refl

pub depth_more : (k : ℕ) (ns : List Node) (ps : List ℕ) (n : ℕ) → depth_of (k + 1) ns ps n ≡ depth_of k ns ps n + rises ns ps (up_from k ns ps n)
unfolding depth_of
depth_more k ns ps n = ap (λ j. depth_of j ns ps n) (add-one k)

pub relinked-none : (ls : List (Option Link)) (s : State) → relinked_all 0 ls s ≡ s
unfolding relinked_all
relinked-none ls s = refl

pub relinked-more : (p : ℕ) (ls : List (Option Link)) (s : State) → relinked_all (p + 1) ls s ≡ relinked p (get_or ls p None) (relinked_all p ls s)
unfolding relinked_all
relinked-more p ls s = ap (λ k. relinked_all k ls s) (add-one p)

pub relinked-step : (p : ℕ) (ls : List (Option Link)) (l : Option Link) (s t u : State) → l ≡ get_or ls p None → t ≡ relinked_all p ls s → u ≡ relinked p l t → u ≡ relinked_all (p + 1) ls s
relinked-step p ls l s t u g e f = f ∙ ap (relinked p l) e ∙ ap (λ k. relinked p k (relinked_all p ls s)) g ∙ sym (relinked-more p ls s)

pub up_step : (k : ℕ) (ns : List Node) (ps : List ℕ) (n at on : ℕ) → at ≡ up_from k ns ps n → on ≡ above_box ns ps at → on ≡ up_from (k + 1) ns ps n
up_step k ns ps n at on e f = f ∙ ap (above_box ns ps) e ∙ sym (up_more k ns ps n)

pub depth_step : (k : ℕ) (ns : List Node) (ps : List ℕ) (n at d r : ℕ) → at ≡ up_from k ns ps n → d ≡ depth_of k ns ps n → r ≡ rises ns ps at → d + r ≡ depth_of (k + 1) ns ps n
depth_step k ns ps n at d r e f g = ap (λ x. x + r) f ∙ ap (λ x. depth_of k ns ps n + x) (g ∙ ap (rises ns ps) e) ∙ sym (depth_more k ns ps n)

pub spread-step : (n : ℕ) (ns : List Node) (vs row at on : List ℕ) → at ≡ spread n ns vs row → on ≡ spread_one ns n (get_or vs n 0) at → on ≡ spread (n + 1) ns vs row
spread-step n ns vs row at on e f = f ∙ ap (spread_one ns n (get_or vs n 0)) e ∙ sym (spread-more n ns vs row)
