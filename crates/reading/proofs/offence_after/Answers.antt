use Rattle.reading.proofs.Own.{told}
use Rattle.reading.proofs.offence_after.Goals as goal

pub enum_told-1 : goal.enum_told-1
enum_told-1 c = search told

pub enum_told-in-Other : goal.enum_told-in-Other
enum_told-in-Other c = search told

pub offends-requires : goal.offends-requires
offends-requires c = search told

pub enum_known-said : goal.enum_known-said
enum_known-said c = search told

pub enum_known-said-in-Opens-1 : goal.enum_known-said-in-Opens-1
enum_known-said-in-Opens-1 c = search told

pub enum_known-said-in-Ranges-1 : goal.enum_known-said-in-Ranges-1
enum_known-said-in-Ranges-1 c = search told

pub range_offence-requires : goal.range_offence-requires
range_offence-requires c = search told

pub enum_known-said-in-Calls-1 : goal.enum_known-said-in-Calls-1
enum_known-said-in-Calls-1 c = search told

pub call_offence-requires : goal.call_offence-requires
call_offence-requires c = search told

pub returns-in-Skip : goal.returns-in-Skip
returns-in-Skip c = search told

pub returns-in-Other : goal.returns-in-Other
returns-in-Other c = search told

pub returns-in-Broken : goal.returns-in-Broken
returns-in-Broken c = search told

pub returns-in-Opens : goal.returns-in-Opens
returns-in-Opens c = search told

pub returns-in-Ranges : goal.returns-in-Ranges
returns-in-Ranges c = search told

pub returns-in-Calls : goal.returns-in-Calls
returns-in-Calls c = search told
