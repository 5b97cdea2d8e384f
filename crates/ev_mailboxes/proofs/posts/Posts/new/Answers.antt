use Rattle.std.proofs.Common.{rules, ◌+◌, map, [], ◌∷◌, ◌++◌, sym, ap, ◌∙◌, arith}
use Rattle.std.proofs.Common.{add-one}
use Rattle.std.proofs.lemmas.List.{map-append}
use Rattle.ev_mailboxes.specs.Posts.{letters_to}
use Rattle.ev_mailboxes.specs.Inner.Posts.{none_sent}
use Rattle.ev_mailboxes.proofs.posts.Posts.new.Goals as goal

pub loop-place-preserved : goal.loop-place-preserved
loop-place-preserved g c = record {
  sent = ap (map letters_to) c.push_reserved.ensures.items
      ∙ map-append letters_to c.loop-place.all.items (_ ∷ [])
      ∙ (λ i. c.loop-place.invariant.sent i ++ (c.loop-place.place + 1, c.in_ok-post.ensures.post i) ∷ [])
      ∙ ap none_sent (sym (add-one c.loop-place.place));
  len = let l = c.push_reserved.ensures.len in let m = c.loop-place.invariant.len in omega (arith, l, m);
  room = let k = c.push_reserved.ensures.capacity in let r = c.loop-place.invariant.room in search rules;
  inboxes = search rules;
}
