pub mod TextInput
pub mod TextBody
pub mod TextBodyLaws
pub mod Stringin
pub mod StringinLaws
pub mod Stringout
pub mod StringoutLaws
