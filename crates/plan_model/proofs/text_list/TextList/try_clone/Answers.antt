use Rattle.plan_model.proofs.Common.{◌≡◌, ◌∙◌, ◌+◌, ◌<◌, ◌++◌, ◌∷◌, [], List, ℕ, String, Global, string_bytes, arith, length, get_or, take, sym, ap, subst, length-map, take_more, texts}
use Rattle.plan_model.proofs.{Texts.texts-at, TextLists.texts_more}
use Rattle.plan_model.proofs.text_list.TextList.try_clone.Goals as goal

pub loop-text-preserved : goal.loop-text-preserved
loop-text-preserved c =
    let items : List (String Global) = c.deref-text-items.result.now in
    let i = c.loop-text.text-index in
    let inside : i < length items = omega arith in
    let name : List ℕ = get_or (texts items) i [] in
    let whole : texts items ≡ c.args.self.now = ap texts c.deref-text-items.ensures.value ∙ c.self.view_is in
    let read = texts-at items i c.text-item.result c.as_str.result.now inside c.text-item.is c.as_str.ensures.value in
    let more = texts_more c.loop-text.strings.items c.push.new.self.items c.in_ok-text.text name (c.in_ok-text.ensures.ok ∙ read) c.in_ok-push.ensures.items in
    subst (λ (w : List (List ℕ)). texts c.push.new.self.items ≡ take (i + 1) w) whole
    (more ∙ ap (λ (w : List (List ℕ)). w ++ name ∷ []) (c.loop-text.invariant ∙ ap (take i) (sym whole))
    ∙ sym (take_more (texts items) i [] (omega (arith, inside, length-map items string_bytes))))
