use Rattle.ev_config.proofs.Lines.{any_shown}
use Rattle.ev_config.proofs.refusal.put_key.Goals as goal

pub returns-else-is_plain : goal.returns-else-is_plain
returns-else-is_plain g c =
    let shown = c.octets.result.now in (
      shown,
      any_shown c.args.key.now c.as_bytes.result.now shown c.is_plain.result c.is_plain.ensures
          c.if-is_plain.false c.as_bytes.ensures.value,
      c.put-else-is_plain.ensures,
    )
