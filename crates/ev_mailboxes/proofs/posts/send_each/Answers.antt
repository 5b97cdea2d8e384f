use Rattle.std.proofs.Common.{◌<◌, ℕ, length, map, set, sym, ap, subst, ◌∙◌}
use Rattle.std.proofs.lemmas.List.{map-set, length-map}
use Rattle.std.proofs.lemmas.List.Edits.{map_over_more}
use Rattle.std.proofs.Math.ListN.{get_or-map}
use Rattle.ev_mailboxes.specs.Posts.{letters_to, one_with}
use Rattle.ev_mailboxes.proofs.posts.send_each.Goals as goal

pub loop-post-preserved : goal.loop-post-preserved
loop-post-preserved g c =
    let before = map letters_to c.args.posts.now in
    let posts = c.loop-post.posts in
    let i = c.loop-post.post-index in
    let post = c.post-item.result in
    let within : i < length before =
    subst (λ (n : ℕ). i < n) (sym (length-map c.args.posts.now letters_to)) c.loop-post-test.true in
    let is = ap letters_to c.post-item.is ∙ sym (get_or-map letters_to posts i post) in
    let one = one_with c.args.own c.args.update.now in
    map-set letters_to posts i c.send_one.new.post
    ∙ ap (λ e. set (map letters_to posts) i e)
    (c.send_one.ensures ∙ ap (λ p. one (letters_to p)) (sym c.post-item.is))
    ∙ map_over_more one before (map letters_to posts) i (letters_to post) within c.loop-post.invariant is
