pub mod Untils
pub mod JitteredUntils
